-- A text has at most one answer, and if it has one, it is not rejected.
use Rattle.std.proofs.Common.{◌≡◌, ℕ, List, ◌+◌, ◌≤◌, ◌<◌, length, take, refl, sym, subst, arith}
use Rattle.naga_ir.specs.Tree.{Tree}
use Rattle.naga_notation.proofs.OutlineOfLemmas.{Notation-one_text}
use Rattle.naga_notation.proofs.ReadFromLemmas.{Notation-one_block}
use Rattle.naga_notation.specs.Outline.{Notation, outline_text, outline_of}
use Rattle.naga_notation.specs.Refusal.{Refused, IsWithinLimits, depth_of}
use Rattle.naga_notation.specs.declared.error.ShapeError.{ShapeError}
use Rattle.naga_notation.specs.declared.error.ShapeError.TheVariants.{BadText, TooDeep, TooLong, Memory}
use Rattle.naga_proc.specs.Closing.{ClosedBy}
use Rattle.naga_proc.specs.Reshape.{Reshapes}
use Rattle.naga_proc.specs.declared.terminator.rule.Rule.{Rule}
use Rattle.naga_proc.proofs.Closing.ClosedByLemmas.{ClosedBy-unique}
use Rattle.naga_proc.proofs.Texts.ClosedOutlineLemmas.{Notation-closed}

pub Reshapes-one_answer : (rule : Rule) (text answer other : List ℕ) → Reshapes rule text answer → Reshapes rule text other → answer ≡ other
Reshapes-one_answer rule text answer other (_, b, c, is, closes, gives) (_, d, e, also, closes', gives') =
    let same : b ≡ d = Notation-one_block text b d is also in
    let once : c ≡ e = ClosedBy-unique rule d c e (subst (λ block. ClosedBy rule block c) same closes) closes' in
    Notation-one_text c answer other gives (subst (λ block. Notation other block) (sym once) gives')

-- the text that is written for the closed block is the answer
pub Reshapes-written : (rule : Rule) (text answer : List ℕ) (b c : Tree) → IsWithinLimits text → Notation text b → ClosedBy rule b c → answer ≡ outline_text (outline_of c) → Reshapes rule text answer
Reshapes-written rule text answer b c limits is closes written =
    (limits, b, c, is, closes, Notation-closed rule text answer b c is closes written)

-- the only error of a text that has an answer is `Memory`
pub Reshapes-refused : (rule : Rule) (text answer : List ℕ) (e : ShapeError) → Reshapes rule text answer → Refused text e → e ≡ Memory
Reshapes-refused rule text answer (BadText at) (limits, b, c, is, closes, gives) refused = absurd (refused.bad b is)
Reshapes-refused rule text answer (TooDeep at) (limits, b, c, is, closes, gives) refused =
    let within : at < length text = refused.deep.within in
    let low : depth_of (take (at + 1) text) ≤ 100 = limits.shallow (at + 1) (omega (arith, within)) in
    let deep : depth_of (take (at + 1) text) ≡ 101 = refused.deep.deep in
    absurd (omega (arith, low, deep))
Reshapes-refused rule text answer TooLong (limits, b, c, is, closes, gives) refused =
    let short : length text ≤ 65536 = limits.short in absurd (omega (arith, short, refused))
Reshapes-refused rule text answer Memory answers refused = refl
