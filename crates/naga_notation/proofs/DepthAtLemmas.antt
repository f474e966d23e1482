-- The depth of a text that has been read is that of the state that it leads to.
use Rattle.std.proofs.Common.{◌≡◌, ℕ, suc, ◌+◌, ◌-◌, List, [], ◌∷◌, length, refl, ap, ◌∙◌, sym, Option, Some, None, arith, Bool, true, false, add-one, get_or, ◌==◌}
use Rattle.std.proofs.lemmas.Bool.{eqb-true}
use Rattle.naga_ir.specs.Tree.{Tree}
use Rattle.naga_notation.specs.declared.sign.Compound.TheVariants.{If, Switch, Loop, BreakingLoop}
use Rattle.naga_notation.specs.declared.sign.Sign.{Sign}
use Rattle.naga_notation.specs.declared.sign.Sign.TheVariants.{Statement, Begin, Open, Close, OpenCases, CloseCases, DefaultCase, OpenCase, FallThrough, CloseCase}
use Rattle.naga_notation.specs.declared.sign.Simple.TheVariants.{Plain, Break, Continue, Return, Kill}
use Rattle.naga_notation.specs.Reading.State.{in_block, in_accept, in_reject, in_body, in_continuing, of_part, of_case, nothing, awaiting, switching, listing, defaulting, falling, begun_depth, depth_at}
use Rattle.naga_notation.specs.Reading.{sign_of, Part, Place, Outer, Begun, Reached, OpenedCase, after_part, closed_at, list_at, next, after_sign, read_byte, read_from}
use Rattle.naga_notation.specs.Refusal.{depth_after, depth_from}
use Rattle.naga_notation.proofs.IsSketchLemmas.{read_from-some, Some-Reached, sign_text, sign_of-written}

-- the depth after one more sign
abbrev depth_after_sign : ℕ → Option Sign → ℕ
depth_after_sign depth (Some Open) = depth + 1
depth_after_sign depth (Some OpenCase) = depth + 1
depth_after_sign depth (Some Close) = depth - 1
depth_after_sign depth (Some CloseCase) = depth - 1
depth_after_sign depth sign = depth

suc-less_one : (n : ℕ) → n ≡ suc n - 1
suc-less_one n = omega arith

depth_at-Some : (r s : Reached) (depth : ℕ) → Some r ≡ Some s → depth_at r ≡ depth → depth_at s ≡ depth
depth_at-Some r s depth e is = ap (λ (reached : Reached). depth_at reached) (sym (Some-Reached r s e)) ∙ is

depth_at-after_part : (outers : List Outer) (before : Tree) (part : Part) (inner : Tree) → depth_at (after_part outers before part inner) ≡ length outers
depth_at-after_part outers before in_block inner = refl
depth_at-after_part outers before in_accept inner = refl
depth_at-after_part outers before (in_reject accept) inner = refl
depth_at-after_part outers before (in_body break_if) inner = refl
depth_at-after_part outers before (in_continuing body break_if) inner = refl

depth_at-close : (outers : List Outer) (before : Tree) (place : Place) (inner : Tree) (r : Reached) → closed_at outers before place inner ≡ Some r → depth_at r ≡ suc (length outers) - 1
depth_at-close outers before (of_part part) inner r e =
    depth_at-Some _ r _ e (depth_at-after_part outers before part inner ∙ suc-less_one (length outers))
depth_at-close outers before (of_case case) inner r e = absurd cc

depth_at-list : (begun : OpenedCase → Begun) (depth : ℕ) (outers : List Outer) (before : Tree) (place : Place) (r : Reached) → ((case : OpenedCase) → begun_depth (length outers) (begun case) ≡ depth) → list_at begun outers before place ≡ Some r → depth_at r ≡ depth
depth_at-list begun depth outers before (of_part part) r is e = absurd cc
depth_at-list begun depth outers before (of_case case) r is e = depth_at-Some _ r _ e (is case)

depth_at-next : (outers : List Outer) (current : Tree) (begun : Begun) (sign : Sign) (r : Reached) → next outers current begun sign ≡ Some r → depth_at r ≡ depth_after_sign (begun_depth (length outers) begun) (Some sign)
depth_at-next outers current nothing (Statement what) r e = depth_at-Some _ r _ e refl
depth_at-next outers current nothing (Begin If) r e = depth_at-Some _ r _ e refl
depth_at-next outers current nothing (Begin Switch) r e = depth_at-Some _ r _ e refl
depth_at-next outers current nothing (Begin Loop) r e = depth_at-Some _ r _ e refl
depth_at-next outers current nothing (Begin BreakingLoop) r e = depth_at-Some _ r _ e refl
depth_at-next outers current nothing Open r e = depth_at-Some _ r _ e (sym (add-one (length outers)))
depth_at-next (outer ∷ outers) current nothing Close r e = depth_at-close outers outer.statements outer.place current r e
depth_at-next (outer ∷ outers) current nothing FallThrough r e = depth_at-list _ _ outers outer.statements outer.place r (λ case. refl) e
depth_at-next (outer ∷ outers) current nothing CloseCase r e =
    depth_at-list _ _ outers outer.statements outer.place r (λ case. refl) e ∙ suc-less_one (length outers)
depth_at-next outers current (awaiting part) Open r e = depth_at-Some _ r _ e (sym (add-one (length outers)))
depth_at-next outers current switching OpenCases r e = depth_at-Some _ r _ e refl
depth_at-next outers current (listing cases) OpenCase r e = depth_at-Some _ r _ e (sym (add-one (length outers)))
depth_at-next outers current (listing cases) DefaultCase r e = depth_at-Some _ r _ e refl
depth_at-next outers current (listing cases) CloseCases r e = depth_at-Some _ r _ e refl
depth_at-next outers current (defaulting cases) OpenCase r e = depth_at-Some _ r _ e (sym (add-one (length outers)))
depth_at-next outers current (falling case body) CloseCase r e = depth_at-Some _ r _ e (suc-less_one (length outers))
depth_at-next outers current begun sign r e = absurd cc

depth_at-after_sign : (r s : Reached) (sign : Option Sign) → after_sign r sign ≡ Some s → depth_at s ≡ depth_after_sign (depth_at r) sign
depth_at-after_sign r s None e = absurd cc
depth_at-after_sign r s (Some sign) e = depth_at-next r.outers r.current r.begun sign s e

-- ---- the depth after a byte is the depth after its sign

depth_after-written : (depth : ℕ) (sign : Sign) → depth_after_sign depth (Some sign) ≡ depth_after depth (get_or (sign_text sign) 0 0)
depth_after-written depth (Statement Plain) = refl
depth_after-written depth (Statement Break) = refl
depth_after-written depth (Statement Continue) = refl
depth_after-written depth (Statement Return) = refl
depth_after-written depth (Statement Kill) = refl
depth_after-written depth (Begin If) = refl
depth_after-written depth (Begin Switch) = refl
depth_after-written depth (Begin Loop) = refl
depth_after-written depth (Begin BreakingLoop) = refl
depth_after-written depth sign = refl

other_by : (byte code : ℕ) (sign : Sign) (same : Bool) → sign_of code ≡ Some sign → sign_of byte ≡ None → (byte == code) ≡ same → same ≡ false
other_by byte code sign false known none is = refl
other_by byte code sign true known none is =
    let both : None ≡ Some sign = sym none ∙ ap sign_of (eqb-true byte code is) ∙ known in
    absurd cc

-- a byte without a sign differs from each byte that has one
is_other : (byte code : ℕ) (sign : Sign) → sign_of code ≡ Some sign → sign_of byte ≡ None → (byte == code) ≡ false
is_other byte code sign known none = other_by byte code sign (byte == code) known none refl

depth_after-none : (depth byte : ℕ) → sign_of byte ≡ None → depth_after depth byte ≡ depth
depth_after-none depth byte none =
    let brace = is_other byte 123 Open refl none in
    let bracket = is_other byte 91 OpenCase refl none in
    let end_brace = is_other byte 125 Close refl none in
    let end_bracket = is_other byte 93 CloseCase refl none in
    rw (brace, bracket, end_brace, end_bracket)

depth_after-sign : (depth byte : ℕ) (sign : Option Sign) → sign_of byte ≡ sign → depth_after_sign depth sign ≡ depth_after depth byte
depth_after-sign depth byte None is = sym (depth_after-none depth byte is)
depth_after-sign depth byte (Some sign) is =
    depth_after-written depth sign
    ∙ sym (ap (λ text. depth_after depth (get_or text 0 0)) (sign_of-written byte sign is))

pub depth_at-read_byte : (r s : Reached) (byte : ℕ) → read_byte r byte ≡ Some s → depth_at s ≡ depth_after (depth_at r) byte
depth_at-read_byte r s byte e =
    depth_at-after_sign r s (sign_of byte) e ∙ depth_after-sign (depth_at r) byte (sign_of byte) refl

pub depth_at-read_from : (text : List ℕ) (r s : Reached) → read_from (Some r) text ≡ Some s → depth_at s ≡ depth_from (depth_at r) text
depth_at-read_from [] r s e = ap (λ (reached : Reached). depth_at reached) (sym (Some-Reached r s e))
depth_at-read_from (byte ∷ text) r s e =
    let next = read_from-some (read_byte r byte) text s e in
    depth_at-read_from text next.0 s (ap (λ reached. read_from reached text) (sym next.1) ∙ e)
    ∙ ap (λ depth. depth_from depth text) (depth_at-read_byte r next.0 byte next.1)
