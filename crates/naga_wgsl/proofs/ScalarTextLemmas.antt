-- A scalar type is determined by its name.
use Rattle.std.proofs.Common.{◌≡◌, ◌∙◌, ap, sym, refl, ℕ, List, Bool, true, false}
use Rattle.std.specs.Prelude.{◌==◌, if◌then◌else◌, codes, Option, Some, None, Ok}
use Rattle.std.proofs.lemmas.Bool.{eqb-true}
use Rattle.naga_kinds.specs.declared.scalar.Scalar.{Scalar}
use Rattle.naga_kinds.specs.declared.scalar.ScalarKind.{ScalarKind}
use Rattle.naga_kinds.specs.declared.scalar.ScalarKind.TheVariants as kind
use Rattle.naga_wgsl.specs.Types.{name_or, scalar_name, scalar_text}
use Rattle.naga_wgsl.specs.declared.write_error.Cause.TheVariants as cause
use Rattle.naga_wgsl.proofs.FloatTextLemmas.{first_of, rest_of}

-- the scalar with a name, by the first two characters of the name
abbrev kind_by : (first : ℕ) → ScalarKind
kind_by first = if first == 105 then kind.Sint else if first == 117 then kind.Uint else if first == 98 then kind.Bool else kind.Float

abbrev width_by : (first second : ℕ) → ℕ
width_by first second = if first == 98 then 1 else if second == 49 then 2 else 4

abbrev scalar_by : List ℕ → Scalar
scalar_by name = record { kind = kind_by (first_of name); width = width_by (first_of name) (first_of (rest_of name)) }

some-same : (x y : List ℕ) → Some x ≡ Some y → x ≡ y
some-same x y same = cc

integer-by : (kind : ScalarKind) (width : ℕ) (name text : List ℕ) (b : Bool) → (width == 4) ≡ b → scalar_by name ≡ record { kind = kind; width = 4 }
    → (if b then Some name else None) ≡ Some text → scalar_by text ≡ record { kind = kind; width = width }
integer-by kind width name text true is known same =
    ap scalar_by (sym (some-same name text same)) ∙ known ∙ ap (λ width. record { kind = kind; width = width }) (sym (eqb-true width 4 is))
integer-by kind width name text false is known same = cc

truth-by : (width : ℕ) (text : List ℕ) (b : Bool) → (width == 1) ≡ b → (if b then Some (codes "bool") else None) ≡ Some text
    → scalar_by text ≡ record { kind = kind.Bool; width = width }
truth-by width text true is same =
    ap scalar_by (sym (some-same (codes "bool") text same)) ∙ ap (λ width. record { kind = kind.Bool; width = width }) (sym (eqb-true width 1 is))
truth-by width text false is same = cc

float-by : (width : ℕ) (text : List ℕ) (b c : Bool) → (width == 4) ≡ b → (width == 2) ≡ c
    → (if b then Some (codes "f32") else if c then Some (codes "f16") else None) ≡ Some text → scalar_by text ≡ record { kind = kind.Float; width = width }
float-by width text true c is short same =
    ap scalar_by (sym (some-same (codes "f32") text same)) ∙ ap (λ width. record { kind = kind.Float; width = width }) (sym (eqb-true width 4 is))
float-by width text false true is short same =
    ap scalar_by (sym (some-same (codes "f16") text same)) ∙ ap (λ width. record { kind = kind.Float; width = width }) (sym (eqb-true width 2 short))
float-by width text false false is short same = cc

named : (kind : ScalarKind) (width : ℕ) (text : List ℕ) → scalar_name kind width ≡ Some text → scalar_by text ≡ record { kind = kind; width = width }
named kind.Sint width text same = integer-by kind.Sint width (codes "i32") text (width == 4) refl refl same
named kind.Uint width text same = integer-by kind.Uint width (codes "u32") text (width == 4) refl refl same
named kind.Float width text same = float-by width text (width == 4) (width == 2) refl refl same
named kind.Bool width text same = truth-by width text (width == 1) refl same
named kind.AbstractInt width text same = cc
named kind.AbstractFloat width text same = cc

said : (name : Option (List ℕ)) (text : List ℕ) → name_or cause.Scalar name ≡ Ok text → name ≡ Some text
said (Some name) text same = cc
said None text same = cc

-- scalar types with the same name are equal
pub scalar_text-same : (one other : Scalar) (text : List ℕ) → scalar_text one ≡ Ok text → scalar_text other ≡ Ok text → one ≡ other
scalar_text-same one other text first second =
    sym (named one.kind one.width text (said (scalar_name one.kind one.width) text first))
    ∙ named other.kind other.width text (said (scalar_name other.kind other.width) text second)
