use Rattle.std.proofs.Common.{◌≡◌, ◌≢◌, None, sym, subst, rules}
use Rattle.naga_runs.specs.Replay.Walking.{Walked}
use Rattle.naga_runs.specs.Runs.{Asks}
use Rattle.naga_runs.proofs.AsksLemmas.{Asks-not_asked, Asks-unanswered, Asks-says_no, Asks-says_yes}
use Rattle.naga_runs.proofs.walk.Walk.ask.Goals as goal

pub returns-then-is_none : goal.returns-then-is_none
returns-then-is_none c =
    let none : c.args.break_if.now ≡ None = search rules in
    subst (λ s. Walked (Asks c.args.break_if.now) c.args.self.now c.args.self.now s) (sym c.at.ensures) (Asks-not_asked c.args.break_if.now c.args.self.now none)

pub returns-in-None : goal.returns-in-None
returns-in-None c =
    let some : c.args.break_if.now ≢ None = search rules in
    subst (λ s. Walked (Asks c.args.break_if.now) c.args.self.now c.next_answer.new.self s) (sym c.at-in-None.ensures)
    (Asks-unanswered c.args.break_if.now c.args.self.now c.next_answer.new.self some c.in-None.ensures.trace c.in-None.ensures.none.0 c.in-None.ensures.none.1)

pub returns-in-Some-eq0 : goal.returns-in-Some-eq0
returns-in-Some-eq0 c =
    let no : c.in-Some-eq0.field-0 ≡ 0 = search rules in
    let some : c.args.break_if.now ≢ None = search rules in
    subst (λ s. Walked (Asks c.args.break_if.now) c.args.self.now c.next_answer.new.self s) (sym c.at-in-Some-eq0.ensures)
    (Asks-says_no c.args.break_if.now c.args.self.now c.next_answer.new.self c.in-Some-eq0.field-0 some c.in-Some-eq0.ensures.trace c.in-Some-eq0.ensures.some no)

pub returns-in-Some : goal.returns-in-Some
returns-in-Some c =
    let some : c.args.break_if.now ≢ None = search rules in
    let yes : c.in-Some.field-0 ≢ 0 = search rules in
    subst (λ s. Walked (Asks c.args.break_if.now) c.args.self.now c.next_answer.new.self s) (sym c.at-in-Some.ensures)
    (Asks-says_yes c.args.break_if.now c.args.self.now c.next_answer.new.self c.in-Some.field-0 some c.in-Some.ensures.trace c.in-Some.ensures.some yes)
