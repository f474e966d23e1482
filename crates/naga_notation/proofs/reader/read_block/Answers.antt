use Rattle.std.proofs.Common.{◌≡◌, ◌↔◌, ◌∙◌, ◌+◌, ℕ, ◌≤◌, ◌<◌, List, get_or, length, take, Bool, false, IsTrue, Some, IfSome, Option, option_and_then, inl, inr, ap, subst, sym, arith}
use Rattle.std.proofs.lemmas.Bool.{false≢true}
use Rattle.std.proofs.lemmas.Bool.Decides.{leb_tells}
use Rattle.naga_notation.specs.Limits.{greatest_depth, most_bytes}
use Rattle.naga_notation.specs.Reading.{Reached, finished, read, read_byte, sign_of}
use Rattle.naga_notation.specs.Reading.State.{depth_at}
use Rattle.naga_notation.specs.Reading.Reader.{HasFewCases, advanced, reached_of}
use Rattle.naga_notation.proofs.BeginsLemmas.{read-all, read-more}
use Rattle.naga_notation.proofs.IsBadAtLemmas.{IsBadAt-byte, IsBadAt-unfinished, IsDeepAt-byte, IsShallowTo-more}
use Rattle.naga_notation.proofs.IsSketchLemmas.{Notation-finished, cases_begun-take}
use Rattle.naga_notation.proofs.ReachedOfLemmas.{IsReached-some}
use Rattle.naga_notation.proofs.reader.read_block.Goals as goal

shallow : (too_deep : Bool) (depth : ℕ) → IsTrue too_deep ↔ (greatest_depth < depth) → too_deep ≡ false → depth ≤ greatest_depth
shallow too_deep depth tells is =
    elim (leb_tells depth greatest_depth) [
      | inl within ↦ within.1
      | inr deep ↦ absurd (false≢true (sym is ∙ tells.1 deep.1))
    ]

cases_at-few : (text : List ℕ) (at : ℕ) (reached : Option Reached) (state : Reached) → length text ≤ most_bytes → reached ≡ Some state → read (take at text) ≡ Some state → HasFewCases reached
cases_at-few text at reached state short is leads = subst HasFewCases (sym is) (cases_begun-take text at state short leads)

-- the state after one more byte, as the reader says it
advanced-is : (reached : Option Reached) (state : Reached) (byte : ℕ) → reached ≡ Some state → advanced reached (sign_of byte) ≡ read_byte state byte
advanced-is reached state byte is = ap (λ found. advanced found (sign_of byte)) is

finished-is : (reached : Option Reached) (state : Reached) → reached ≡ Some state → option_and_then finished reached ≡ finished state
finished-is reached state is = ap (option_and_then finished) is

deep : (reached : Option Reached) (state : Reached) (too_deep : Bool) → reached ≡ Some state → IfSome reached (λ (found : Reached). IsTrue too_deep ↔ (greatest_depth < depth_at found)) → IsTrue too_deep ↔ (greatest_depth < depth_at state)
deep reached state too_deep is tells = subst (λ (o : Option Reached). IfSome o (λ (found : Reached). IsTrue too_deep ↔ (greatest_depth < depth_at found))) is tells

pub read-requires : goal.read-requires
read-requires c =
    let known = c.loop-at.invariant.read in
    cases_at-few c.args.text.now c.loop-at.at (reached_of c.loop-at.reader) known.state (omega arith) known.is known.leads

pub returns-in-Err-Unexpected-clause-refused : goal.returns-in-Err-Unexpected-clause-refused
returns-in-Err-Unexpected-clause-refused c =
    let known = c.loop-at.invariant.read in
    IsBadAt-byte c.args.text.now c.loop-at.at known.state (omega arith) (omega arith) known.leads
    (sym (advanced-is (reached_of c.loop-at.reader) known.state (get_or c.args.text.now c.loop-at.at 0) known.is) ∙ sym (c.in-Err-Unexpected.ensures c.in-Err-Unexpected.field-0-is))
    c.loop-at.invariant.shallow

pub returns-then-is_too_deep-clause-refused : goal.returns-then-is_too_deep-clause-refused
returns-then-is_too_deep-clause-refused c =
    let known = c.loop-at.invariant.read in
    let after = IsReached-some (reached_of c.read.new.self) _ c.in-Ok.ensures in
    IsDeepAt-byte c.args.text.now c.loop-at.at known.state after.0 (omega arith) (omega arith) known.leads
    (sym (advanced-is (reached_of c.loop-at.reader) known.state (get_or c.args.text.now c.loop-at.at 0) known.is) ∙ after.2)
    ((deep (reached_of c.read.new.self) after.0 _ after.1 c.is_too_deep.ensures).0 c.if-is_too_deep.true)
    c.loop-at.invariant.shallow

pub loop-at-preserved : goal.loop-at-preserved
loop-at-preserved c =
    let known = c.loop-at.invariant.read in
    let after = IsReached-some (reached_of c.read.new.self) _ c.in-Ok.ensures in
    let leads : read (take (c.loop-at.at + 1) c.args.text.now) ≡ Some after.0 =
    read-more c.args.text.now c.loop-at.at known.state (omega arith) known.leads
    ∙ sym (advanced-is (reached_of c.loop-at.reader) known.state (get_or c.args.text.now c.loop-at.at 0) known.is) ∙ after.2 in
    record {
      read = record { state = after.0; is = after.1; leads = leads };
      shallow = IsShallowTo-more c.args.text.now c.loop-at.at after.0 leads (shallow _ _ (deep (reached_of c.read.new.self) after.0 _ after.1 c.is_too_deep.ensures) c.if-is_too_deep.false) c.loop-at.invariant.shallow;
    }

pub returns-in-Some-clause-notation : goal.returns-in-Some-clause-notation
returns-in-Some-clause-notation c =
    let known = c.loop-at.invariant.read in
    Notation-finished c.args.text.now known.state _
    (read-all c.args.text.now c.loop-at.at _ (omega arith) known.leads)
    (sym (finished-is (reached_of c.loop-at.reader) known.state known.is) ∙ sym c.in-Some.ensures)

pub returns-in-None-clause-refused : goal.returns-in-None-clause-refused
returns-in-None-clause-refused c =
    let known = c.loop-at.invariant.read in
    IsBadAt-unfinished c.args.text.now known.state (omega arith)
    (read-all c.args.text.now c.loop-at.at _ (omega arith) known.leads)
    (sym (finished-is (reached_of c.loop-at.reader) known.state known.is) ∙ sym c.in-None.ensures)
    (λ k h. c.loop-at.invariant.shallow k (omega (arith, h)))
