use Rattle.std.proofs.Common.{arith, ◌≡◌, ◌≤◌, ◌+◌, ◌++◌, ◌↔◌, ◌∙◌, List, ℕ, ap, length, take, drop, length-append, vec_len}
use Rattle.lists.proofs.Words.{append-nil, length-drop, length-take, take-append-le, err_from_is_err_and}
use Rattle.edge_io.proofs.ByteLaws.{HasRead-more, HasRead-all, HasRead-long, HasRead-Drops, HasRead-DropsUpTo}
use Rattle.edge_io.specs.ReadAnswers.{is_whole, is_too_long, has_no_memory, has_failed}
use Rattle.edge_io.proofs.whole.read_whole.Goals as goal

-- two equivalences one behind the other
then : {A B C : Type 0} → B ↔ A → C ↔ B → C ↔ A
then first second = (λ c. first.0 (second.0 c), λ a. second.1 (first.1 a))

pub loop-buf-preserved : goal.loop-buf-preserved
loop-buf-preserved g c =
    let given = c.in_ok-count.ensures in
    let whole = c.in_ok-extend_from_slice.ensures in
    let front = take-append-le c.in_ok-count.count c.read.new.buf (drop c.min-room.result c.loop-buf.buf) given.within in
    record {
      holds = λ n. given.holds n ∙ c.loop-buf.invariant.holds n;
      starts = given.starts ∙ c.loop-buf.invariant.starts;
      sure = λ n. then (c.loop-buf.invariant.sure n) (given.sure n);
      steady = λ is_sure. given.steady.1 (c.loop-buf.invariant.steady is_sure);
      started = given.started;
      calm = given.calm ∙ c.loop-buf.invariant.calm;
      within = omega (arith, whole.len, ap length front, given.within, c.read.auto.buf, c.min-room.ensures, length-take {A = ℕ}, length-drop {A = ℕ});
      read = rw (whole.items, front) (HasRead-more _ _ _ _ _ c.loop-buf.invariant.read given.gives);
    }

pub returns-then-count-eq0 : goal.returns-then-count-eq0
returns-then-count-eq0 g c =
    let given = c.in_ok-count.ensures in
    let gives = rw c.if-count-eq0.true at given.gives in
    let none = HasRead-more _ _ _ _ _ c.loop-buf.invariant.read gives in
    let long : vec_len c.loop-buf.whole ≡ length c.loop-buf.whole.items = omega arith in
    record {
      answer = is_whole {bytes = c.loop-buf.whole} (HasRead-all _ _ _ _ c.loop-buf.invariant.read gives) (rw c.as_slice.ensures.value at c.tell_bytes.ensures) (omega arith)
          (given.calm ∙ c.loop-buf.invariant.calm) given.started (rw long (HasRead-Drops _ _ _ (rw append-nil at none)));
      holds = λ n. given.holds n ∙ c.loop-buf.invariant.holds n;
      starts = given.starts ∙ c.loop-buf.invariant.starts;
      sure = λ n. then (c.loop-buf.invariant.sure n) (given.sure n);
      not_sure = λ e. absurd (cc e);
    }

pub returns-in_err-start : goal.returns-in_err-start
returns-in_err-start g c =
    let error = err_from_is_err_and c.from_residual.result c.from_residual.ensures.1 in
    record {
      answer = rw (error.1, error.2) (has_failed c.in_err-start.ensures.failed);
      holds = c.in_err-start.ensures.holds;
      starts = c.in_err-start.ensures.starts;
      sure = c.in_err-start.ensures.sure;
      not_sure = λ _. c.in_err-start.ensures.not_sure;
    }

pub returns-in_err-count : goal.returns-in_err-count
returns-in_err-count g c =
    let error = err_from_is_err_and c.from_residual-in_err-count.result c.from_residual-in_err-count.ensures.1 in
    record {
      answer = rw (error.1, error.2) (has_failed (rw c.loop-buf.invariant.calm at c.in_err-count.ensures.failed));
      holds = λ n. c.in_err-count.ensures.holds n ∙ c.loop-buf.invariant.holds n;
      starts = c.in_err-count.ensures.starts ∙ c.loop-buf.invariant.starts;
      sure = λ n. then (c.loop-buf.invariant.sure n) (c.in_err-count.ensures.sure n);
      not_sure = λ _ is_sure. c.in_err-count.ensures.not_steady (c.loop-buf.invariant.steady is_sure);
    }

pub returns-in_err-extend_from_slice : goal.returns-in_err-extend_from_slice
returns-in_err-extend_from_slice g c =
    let error = err_from_is_err_and c.from_residual-in_err-extend_from_slice.result c.from_residual-in_err-extend_from_slice.ensures.1 in
    let given : List ℕ = take c.in_ok-count.count c.read.new.buf in
    let more = HasRead-more _ _ _ _ given c.loop-buf.invariant.read c.in_ok-count.ensures.gives in
    let fits : length (c.loop-buf.whole.items ++ given) ≤ c.args.limit + 1 = omega (
      arith,
      c.in_ok-count.ensures.within,
      c.read.auto.buf,
      c.min-room.ensures,
      length-append {A = ℕ},
      length-take {A = ℕ},
      length-drop {A = ℕ},
    ) in
    record {
      answer = rw (error.1, error.2) (has_no_memory (c.in_ok-count.ensures.calm ∙ c.loop-buf.invariant.calm) c.in_ok-count.ensures.started (HasRead-DropsUpTo _ _ _ _ more fits));
      holds = λ n. c.in_ok-count.ensures.holds n ∙ c.loop-buf.invariant.holds n;
      starts = c.in_ok-count.ensures.starts ∙ c.loop-buf.invariant.starts;
      sure = λ n. then (c.loop-buf.invariant.sure n) (c.in_ok-count.ensures.sure n);
      not_sure = λ e. absurd (cc (error.1, error.2, e));
    }

pub returns : goal.returns
returns g c =
    let past : c.args.limit + 1 ≡ length c.loop-buf.whole.items = omega arith in
    record {
      answer = is_too_long (HasRead-long _ _ _ _ c.loop-buf.invariant.read (omega arith)) c.loop-buf.invariant.calm c.loop-buf.invariant.started
          (rw past (HasRead-Drops _ _ _ c.loop-buf.invariant.read));
      holds = c.loop-buf.invariant.holds;
      starts = c.loop-buf.invariant.starts;
      sure = c.loop-buf.invariant.sure;
      not_sure = λ e. absurd (cc e);
    }

pub read-requires-clause-started : goal.read-requires-clause-started
read-requires-clause-started g c = c.loop-buf.invariant.started
