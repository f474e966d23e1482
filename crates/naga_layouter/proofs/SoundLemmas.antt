-- A module in which the check finds no fault has sound types.
use Rattle.std.proofs.Common.{◌≡◌, ℕ, zero, suc, ◌+◌, List, [], ◌∷◌, ◌++◌, Option, Some, None, Result, Ok, Err, length, length-append, unwrap_or, refl, ap, sym, subst, ◌∙◌, arith}
use Rattle.std.specs.List.{slice_get}
use Rattle.std.specs.Option.{option_map}
use Rattle.naga_arena.specs.Arena.{value_at, values}
use Rattle.naga_arena.specs.declared.span.Span.{Span}
use Rattle.naga_ir.specs.declared.global_ctx.GlobalCtx.{GlobalCtx}
use Rattle.naga_ir.specs.declared.module.GlobalVariable.{GlobalVariable}
use Rattle.naga_ir.specs.declared.module.Module as the_module
use Rattle.naga_ir.specs.declared.types.«Type».{«Type» as NamedType}
use Rattle.naga_ir.specs.declared.types.TypeInner.{TypeInner}
use Rattle.naga_layouter.specs.Check.{FirstFaultIs, fault_after, layout_fault, member_of}
use Rattle.naga_layouter.specs.Faults.{fault_by, layout_at, type_fault, types_fault}
use Rattle.naga_layouter.specs.Layout.{alignment_of, layout_of, laying, size_of, sized, with_alignment}
use Rattle.naga_layouter.specs.Leaves.{LeavesDoNotMeet, LeavesLieInside, bytes_with, part_with}
use Rattle.naga_layouter.specs.Spaces.{all_space_faults, variables_fault}
use Rattle.naga_layouter.specs.declared.layouter.TypeLayout.{TypeLayout}
use Rattle.naga_layouter.specs.declared.layout_error.LayoutErrorInner.{LayoutErrorInner}
use Rattle.naga_layouter.specs.declared.layout_fault.LayoutCause.TheVariants.{NoLayout}
use Rattle.naga_layouter.proofs.LeavesLemmas.{AreSound, Faultless, laid-out, none-some, or-none}
use Rattle.naga_layouter.proofs.PathLemmas.{apart, inside}

-- ---- lists

pub slice-kept : {X : Type 0} (xs ys : List X) (i : ℕ) (x : X) → slice_get xs i ≡ Some x → slice_get (xs ++ ys) i ≡ Some x
slice-kept [] ys zero x is = none-some x is
slice-kept [] ys (suc i) x is = none-some x is
slice-kept (y ∷ xs) ys zero x is = is
slice-kept (y ∷ xs) ys (suc i) x is = slice-kept xs ys i x is

pub slice-pushed : {X : Type 0} (xs : List X) (x : X) → slice_get (xs ++ x ∷ []) (length xs) ≡ Some x
slice-pushed [] x = refl
slice-pushed (y ∷ xs) x = slice-pushed xs x

-- ---- layouts

with_alignment-ok : (size : ℕ) (alignment : Result ℕ LayoutErrorInner) (layout : TypeLayout)
    → with_alignment size alignment ≡ Ok layout → size ≡ layout.size
with_alignment-ok size (Ok alignment) layout is =
    let made : TypeLayout = record { size = size; alignment = alignment } in
    let e : Ok made ≡ Ok layout = is in
    let same : made ≡ layout = cc in
    ap (λ (l : TypeLayout). l.size) same
with_alignment-ok size (Err error) layout is = absurd (let e : Err error ≡ Ok layout = is in cc)

sized-ok : (known : List TypeLayout) (inner : TypeInner) (size : Option ℕ) (layout : TypeLayout)
    → sized known inner size ≡ Ok layout → size ≡ Some layout.size
sized-ok known inner (Some size) layout is = ap Some (with_alignment-ok size (alignment_of known inner) layout is)
sized-ok known inner None layout is = absurd (cc)

module _ (ctx : GlobalCtx) (known : List TypeLayout) where
  abbrev Laid : List TypeLayout → List NamedType → Type 0
  Laid before types = laying ctx before types ≡ (known, None)

  abbrev from : List TypeLayout → List NamedType → Result TypeLayout LayoutErrorInner → List TypeLayout × Option LayoutErrorInner
  from before rest found =
      elim found as (λ _. List TypeLayout × Option LayoutErrorInner) [
        | Err error ↦ (before, Some error)
        | Ok layout ↦ laying ctx (before ++ layout ∷ []) rest
      ]

  -- the first type has a layout, and the rest is laid after it
  record First (before : List TypeLayout) (inner : TypeInner) (rest : List NamedType) : Type 0 where
    pub layout : TypeLayout
    pub is : layout_of ctx before inner ≡ Ok layout
    pub laid : Laid (before ++ layout ∷ []) rest

  first-by : (before : List TypeLayout) (inner : TypeInner) (rest : List NamedType) (found : Result TypeLayout LayoutErrorInner)
      → layout_of ctx before inner ≡ found → from before rest found ≡ (known, None) → First before inner rest
  first-by before inner rest (Ok layout) is laid = record { layout = layout; is = is; laid = laid }
  first-by before inner rest (Err error) is laid =
      let both : (before, Some error) ≡ (known, None) = laid in
      none-some error (sym (ap (λ (p : List TypeLayout × Option LayoutErrorInner). p.1) both))

  first : (before : List TypeLayout) (type : NamedType) (rest : List NamedType) → Laid before (type ∷ rest) → First before type.inner rest
  first before type rest laid = first-by before type.inner rest (layout_of ctx before type.inner) refl laid

  -- layouts that are known stay
  laid-kept : (before : List TypeLayout) (types : List NamedType) (i : ℕ) (layout : TypeLayout) → Laid before types
      → slice_get before i ≡ Some layout → slice_get known i ≡ Some layout
  laid-kept before [] i layout laid is =
      let both : (before, None) ≡ (known, None) = laid in
      let same : before ≡ known = ap (λ (p : List TypeLayout × Option LayoutErrorInner). p.0) both in
      subst (λ (ls : List TypeLayout). slice_get ls i ≡ Some layout) same is
  laid-kept before (type ∷ rest) i layout laid is =
      let here = first before type rest laid in
      laid-kept (before ++ here.layout ∷ []) rest i layout here.laid (slice-kept before (here.layout ∷ []) i layout is)

  -- the layout of each type has its size
  record HasSize (i : ℕ) (inner : TypeInner) : Type 0 where
    pub layout : TypeLayout
    pub at : slice_get known i ≡ Some layout
    pub size : size_of ctx inner ≡ Some layout.size

  laid-sizes : (before : List TypeLayout) (types : List NamedType) (i : ℕ) (type : NamedType) → Laid before types
      → slice_get types i ≡ Some type → HasSize (length before + i) type.inner
  laid-sizes before [] zero type laid is = none-some type is
  laid-sizes before [] (suc i) type laid is = none-some type is
  laid-sizes before (other ∷ rest) zero type laid is =
      let here = first before other rest laid in
      let e : Some other ≡ Some type = is in
      let same : other ≡ type = cc in
      let at : length before ≡ length before + 0 = omega arith in
      let found : slice_get known (length before) ≡ Some here.layout =
      laid-kept (before ++ here.layout ∷ []) rest (length before) here.layout here.laid (slice-pushed before here.layout) in
      let size : size_of ctx other.inner ≡ Some here.layout.size =
      sized-ok before other.inner (size_of ctx other.inner) here.layout here.is in
      record {
        layout = here.layout;
        at = subst (λ (k : ℕ). slice_get known k ≡ Some here.layout) at found;
        size = subst (λ (t : NamedType). size_of ctx t.inner ≡ Some here.layout.size) same size;
      }
  laid-sizes before (other ∷ rest) (suc i) type laid is =
      let here = first before other rest laid in
      let later = laid-sizes (before ++ here.layout ∷ []) rest i type here.laid is in
      let at : length (before ++ here.layout ∷ []) + i ≡ length before + suc i =
      omega (arith, length-append before (here.layout ∷ [])) in
      subst (λ (k : ℕ). HasSize k type.inner) at later

-- ---- faults

types-faultless : (types : List (NamedType × Span)) (known : List TypeLayout) (start : ℕ) (some : List NamedType) (i : ℕ) (type : NamedType)
    → types_fault types known start some ≡ None → slice_get some i ≡ Some type → type_fault types known (start + i) type.inner ≡ None
types-faultless types known start [] zero type fine is = none-some type is
types-faultless types known start [] (suc i) type fine is = none-some type is
types-faultless types known start (other ∷ rest) zero type fine is =
    let e : Some other ≡ Some type = is in
    let same : other ≡ type = cc in
    let at : start ≡ start + 0 = omega arith in
    let here = (or-none (type_fault types known start other.inner) (types_fault types known (start + 1) rest) fine).0 in
    let moved = subst (λ (k : ℕ). type_fault types known k other.inner ≡ None) at here in
    subst (λ (t : NamedType). type_fault types known (start + 0) t.inner ≡ None) same moved
types-faultless types known start (other ∷ rest) (suc i) type fine is =
    let later = (or-none (type_fault types known start other.inner) (types_fault types known (start + 1) rest) fine).1 in
    let at : start + 1 + i ≡ start + suc i = omega arith in
    subst (λ (k : ℕ). type_fault types known k type.inner ≡ None) at (types-faultless types known (start + 1) rest i type later is)

-- a type that was looked up
record IsFound (found : Option NamedType) (inner : TypeInner) : Type 0 where
  pub type : NamedType
  pub is : found ≡ Some type
  pub same : type.inner ≡ inner

found-type : (found : Option NamedType) (inner : TypeInner) → option_map (λ type. type.inner) found ≡ Some inner → IsFound found inner
found-type None inner is = none-some inner is
found-type (Some type) inner is =
    let e : Some type.inner ≡ Some inner = is in record { type = type; is = refl; same = cc }

-- ---- modules

after-none : (types : List (NamedType × Span)) (variables : List (GlobalVariable × Span)) (known : List TypeLayout) (stop : Option LayoutErrorInner)
    → fault_after types variables known stop ≡ None → (stop ≡ None) × (types_fault types known 0 (values types) ≡ None)
after-none types variables known None fine = (
  refl,
  (or-none (types_fault types known 0 (values types))
      (variables_fault (all_space_faults types [] (values types)) (values variables)) fine).0,
)
after-none types variables known (Some error) fine =
    absurd (let empty : fault_by (length known) (member_of error) (Some (NoLayout error)) ≡ None = fine in cc)

-- the types of a context in which there is no fault are sound
sound-in : (ctx : GlobalCtx) (variables : List (GlobalVariable × Span)) → layout_fault ctx variables ≡ None
    → AreSound ctx.types.now ctx (laying ctx [] (values ctx.types.now)).0
sound-in ctx variables fine =
    let types = ctx.types.now in
    let found = laying ctx [] (values types) in
    let both = after-none types variables found.0 found.1 fine in
    let laid : found ≡ (found.0, None) = ap (λ (stop : Option LayoutErrorInner). (found.0, stop)) both.0 in
    record {
      sizes = λ handle inner is.
          let it = found-type (value_at types handle) inner is in
          let has = laid-sizes ctx found.0 [] (values types) handle it.type laid it.is in
          let at : 0 + handle ≡ handle = omega arith in
          let here : slice_get found.0 handle ≡ Some has.layout =
          subst (λ (k : ℕ). slice_get found.0 k ≡ Some has.layout) at has.at in
          let same : layout_at found.0 handle ≡ has.layout =
          ap (λ (l : Option TypeLayout). unwrap_or l (record { size = 0; alignment = 0 })) here in
          ap (λ (i : TypeInner). size_of ctx i) (sym it.same) ∙ has.size ∙ ap (λ (l : TypeLayout). Some l.size) (sym same);
      faultless = λ handle inner is.
          let it = found-type (value_at types handle) inner is in
          let at : 0 + handle ≡ handle = omega arith in
          let none = types-faultless types found.0 0 (values types) handle it.type both.1 it.is in
          let here : type_fault types found.0 handle it.type.inner ≡ None =
          subst (λ (k : ℕ). type_fault types found.0 k it.type.inner ≡ None) at none in
          subst (λ (i : TypeInner). type_fault types found.0 handle i ≡ None) it.same here;
    }

-- the layouts of a module without faults
pub record HasSound (whole : the_module.Module) : Type 0 where
  pub ctx : GlobalCtx
  pub known : List TypeLayout
  pub sound : AreSound whole.types ctx known

pub sound-of : (whole : the_module.Module) → FirstFaultIs whole None → HasSound whole
sound-of whole fine =
    let ctx = fine.0 in
    let known = (laying ctx [] (values ctx.types.now)).0 in
    record {
      ctx = ctx;
      known = known;
      sound = subst (λ (types : List (NamedType × Span)). AreSound types ctx known) fine.1.types
          (sound-in ctx whole.global_variables fine.2);
    }

pub leaves-lie-inside : LeavesLieInside
leaves-lie-inside whole fine n handle inner is path offset leaf leads =
    let has = sound-of whole fine in
    inside (bytes_with whole.types n) (part_with whole.types n) (Faultless whole.types has.ctx has.known n has.sound)
    (laid-out whole.types has.ctx has.known n has.sound) path inner offset leaf (handle, has.sound.faultless handle inner is) leads.reached

pub leaves-do-not-meet : LeavesDoNotMeet
leaves-do-not-meet whole fine n handle inner is path way offset other leaf second leads also differ =
    let has = sound-of whole fine in
    apart (bytes_with whole.types n) (part_with whole.types n) (Faultless whole.types has.ctx has.known n has.sound)
    (laid-out whole.types has.ctx has.known n has.sound) path way inner offset other leaf second
    (handle, has.sound.faultless handle inner is) leads.reached also.reached leads.indivisible also.indivisible differ
