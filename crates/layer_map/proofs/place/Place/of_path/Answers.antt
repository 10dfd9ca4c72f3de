use Rattle.std.proofs.Common.{ℕ, IfSome, arith, subst}
use Rattle.layer_map.specs.MapPlaces.{HasPath}
use Rattle.layer_map.specs.declared.place.ItemKind.TheVariants as kind
use Rattle.layer_map.proofs.PlaceLaws.{item_within, key_within, past_item}
use Rattle.layer_map.proofs.place.Place.of_path.Goals as goal

pub returns-then-path-terminal-clause-path : goal.returns-then-path-terminal-clause-path
returns-then-path-terminal-clause-path c =
    subst (λ (path : ℕ). IfSome c.item_place.result (λ place. HasPath c.args.measure place path)) (omega (arith, c.terminal.ensures, c.if-path-terminal.true)) (c.item_place.ensures.path c.args.measure)

pub returns-then-path-cut-clause-path : goal.returns-then-path-cut-clause-path
returns-then-path-cut-clause-path c =
    subst (λ (path : ℕ). IfSome c.item_place-then-path-cut.result (λ place. HasPath c.args.measure place path)) (omega (arith, c.cut-then-path-cut.ensures, c.cut.ensures, c.if-path-cut.true))
    (c.item_place-then-path-cut.ensures.path c.args.measure)

pub returns-then-path-metal-clause-path : goal.returns-then-path-metal-clause-path
returns-then-path-metal-clause-path c =
    subst (λ (path : ℕ). IfSome c.item_place-then-path-metal.result (λ place. HasPath c.args.measure place path)) (omega (arith, c.metal-then-path-metal.ensures, c.metal.ensures, c.if-path-metal.true))
    (c.item_place-then-path-metal.ensures.path c.args.measure)

pub returns-then-path-terminal-clause-each : goal.returns-then-path-terminal-clause-each
returns-then-path-terminal-clause-each c place within has =
    item_within _ kind.Terminal c.args.path (past_item kind.Terminal place c.args.measure c.args.path (omega arith, tt) within has)
    (λ number further least is. c.item_place.ensures.each number further least (omega arith))

pub returns-then-path-cut-clause-each : goal.returns-then-path-cut-clause-each
returns-then-path-cut-clause-each c place within has =
    item_within _ kind.Cut c.args.path (past_item kind.Cut place c.args.measure c.args.path (omega arith, omega arith) within has)
    (λ number further least is. c.item_place-then-path-cut.ensures.each number further least (omega arith))

pub returns-then-path-metal-clause-each : goal.returns-then-path-metal-clause-each
returns-then-path-metal-clause-each c place within has =
    item_within _ kind.Metal c.args.path (past_item kind.Metal place c.args.measure c.args.path (omega arith, omega arith) within has)
    (λ number further least is. c.item_place-then-path-metal.ensures.each number further least (omega arith))

pub returns-then-path-ge-VERSION-clause-each : goal.returns-then-path-ge-VERSION-clause-each
returns-then-path-ge-VERSION-clause-each c place within has =
    key_within _ place c.args.measure c.args.path (omega arith) (omega arith) has (λ k low is. c.key_place.ensures.each (omega arith))
