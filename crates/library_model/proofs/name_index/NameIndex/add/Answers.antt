use Rattle.std.proofs.Common.{refl, ap, length, arith}
use Rattle.lists.proofs.Words.{length-map}
use Rattle.library_model.proofs.NameLaws.{known_with, fresh_with, names_with, names_with_differ, count_with}
use Rattle.library_model.proofs.name_index.NameIndex.add.Goals as goal

pub invariant_of-self-2 : goal.invariant_of-self-2
invariant_of-self-2 c =
    let told = c.in_ok-is_new.ensures in (
      names_with_differ (λ k. k.now) c.args.name.now c.self.inside.names.keys c.args.name c.insert.new.self.keys c.in_ok-is_new.is_new
          refl told.added told.keys c.self.invariant.0,
      omega (
        arith,
        c.requires,
        ap length c.self.view_is,
        length-map c.self.inside.names.keys (λ k. k.now),
        count_with (λ k. k.now) c.args.name.now c.self.inside.names.keys c.args.name c.insert.new.self.keys c.in_ok-is_new.is_new
            refl told.added told.keys,
      ),
    )

pub returns-clause-fresh : goal.returns-clause-fresh
returns-clause-fresh c =
    let told = c.in_ok-is_new.ensures in
    rw (← c.self.view_is)
    (fresh_with (λ k. k.now) c.args.name.now c.self.inside.names.keys c.args.name c.insert.new.self.keys c.in_ok-is_new.is_new
    refl told.added told.keys)

pub returns-clause-known : goal.returns-clause-known
returns-clause-known c =
    let told = c.in_ok-is_new.ensures in
    rw (← c.self.view_is)
    (known_with (λ k. k.now) c.args.name.now c.self.inside.names.keys c.args.name c.insert.new.self.keys c.in_ok-is_new.is_new
    refl told.added told.keys)

pub returns-clause-names : goal.returns-clause-names
returns-clause-names c =
    let told = c.in_ok-is_new.ensures in
    rw (← c.self.view_is)
    (names_with (λ k. k.now) c.args.name.now c.self.inside.names.keys c.args.name c.insert.new.self.keys c.in_ok-is_new.is_new
    refl told.added told.keys)
