-- The lines of a report, one after another: lemmas on specs/Report.antt.
use Rattle.std.proofs.Common.{◌≡◌, ◌∙◌, inl, inr, refl, sym, ap, subst, ℕ, zero, suc, ◌+◌, ◌≤◌, List, [], ◌∷◌, ◌++◌, length, map, take, Some, append_assoc, arith}
use Rattle.std.proofs.Math.Seq.{take-nil}
use Rattle.std.proofs.lemmas.List.{append-nil}
use Rattle.std.proofs.lemmas.List.Elements.{All-append, All-cons, All-head, All-nil, All-tail}
use Rattle.std.specs.Prelude.{◌≢◌, ◌↔◌, All, OnOk, Result, Ok, Err, codes, flat_map, slice_get, string_bytes}
use Rattle.std.specs.List.{AllZip, enumerate_from}
use Rattle.naga_arena.specs.Arena.{values}
use Rattle.naga_flow.proofs.AllLemmas.{All-both}
use Rattle.naga_flow.specs.Bodies.{BodyPasses, functions_of, functions_of_entries}
use Rattle.naga_ir.specs.declared.module.EntryPoint as entry_point
use Rattle.naga_ir.specs.declared.module.Function as function
use Rattle.naga_ir.specs.declared.module.Module as the_module
use Rattle.naga_text.specs.Escapes.{visible}
use Rattle.naga_text.specs.Readable.{IsLine, IsPlain}
use Rattle.naga_text.proofs.ReadableEscapesLemmas.{visible-plain}
use Rattle.naga_text.proofs.ReadableModuleLemmas.{declared_text-plain}
use Rattle.naga_text.proofs.ReadableWordsLemmas.{number-plain, quoted-plain}
use Rattle.naga_text.proofs.SpellsLemmas.{Spells-after, Spells-append, Spells-ascii}
use Rattle.naga_typing.specs.DeclarationFaults.{AreFaultsOfDeclarations}
use Rattle.naga_typing.specs.FunctionFaults.{AreFirstFaults}
use Rattle.naga_typing.specs.Joined.{Adds, AddsJoined, AreJoined}
use Rattle.naga_typing.specs.Messages.{initialized_text}
use Rattle.naga_typing.specs.TypedModules.{DeclarationsAreTyped, FunctionIsTyped}
use Rattle.naga_typing.specs.declared.initial.Initialized.{Initialized}
use Rattle.naga_typing.specs.declared.initial.Initialized.TheVariants as initial
use Rattle.naga_typing.specs.declared.invalid_types.TypeFault.{TypeFault}
use Rattle.naga_typing.specs.declared.invalid_types.ValueFault.{ValueFault}
use Rattle.naga_typing.specs.declared.invalid_types.ValueFault.TheVariants as fault
use Rattle.naga_typing.proofs.DeclarationFaultsLemmas.{AreFaultsOfDeclarations-none}
use Rattle.naga_typing.proofs.FunctionFaultsLemmas.{AreFaultsOfFunction-none}
use Rattle.naga_typing.proofs.JoinedLemmas.{AddsJoined-all, AddsJoined-joined}
use Rattle.naga_valid.specs.ElementNames.{text_of}
use Rattle.naga_look.specs.DeclarationLines.{AddsDeclarationLines, AreDeclarationLines, IsDeclarationLine, IsSaid, expression_text, fault_head}
use Rattle.naga_text.specs.Readable.{IsLine}
use Rattle.naga_look.specs.Report.{AreFaults, AreFunctionLines, AreTypeLines, Headed, IsBodyFault, IsBodyLine, IsSaidOfTypes, IsTypeLine, ModulePasses, Passes, fault_line, headed_bodies, headed_entry_point, headed_entry_points, headed_function, headed_functions, limit_of, line_count}
use Rattle.naga_look.specs.declared.shown.Extent.{Extent}
use Rattle.naga_look.specs.declared.shown.Extent.TheVariants.{Full, Short}
use Rattle.naga_look.proofs.LineCountLemmas.{line_count-append, line_count-line}

-- ---- elements with their positions

module _ {X Y : Type 0} (f : ℕ × X → Y) where
  pub numbered-length : (k : ℕ) (xs : List X) → length (map f (enumerate_from k xs)) ≡ length xs
  numbered-length k [] = refl
  numbered-length k (x ∷ xs) = ap suc (numbered-length (k + 1) xs)

  pub numbered-at : (k i : ℕ) (xs : List X) (x : X) → slice_get xs i ≡ Some x → slice_get (map f (enumerate_from k xs)) i ≡ Some (f (k + i, x))
  numbered-at k i [] x at = cc
  numbered-at k zero (y ∷ xs) x at =
      let here : y ≡ x = cc in
      let same : k ≡ k + 0 = omega arith in
      λ j. Some (f (same j, here j))
  numbered-at k (suc i) (y ∷ xs) x at =
      let moved : (k + 1) + i ≡ k + suc i = omega arith in
      numbered-at (k + 1) i xs x at ∙ ap (λ n. Some (f (n, x))) moved

-- ---- the functions of a module

pub headed_functions-length : (functions : List function.Function) → length (headed_functions functions) ≡ length functions
headed_functions-length functions = numbered-length headed_function 0 functions

pub headed_entry_points-length : (entry_points : List entry_point.EntryPoint) → length (headed_entry_points entry_points) ≡ length entry_points
headed_entry_points-length entry_points = numbered-length headed_entry_point 0 entry_points

pub headed_functions-at : (functions : List function.Function) (i : ℕ) (whole : function.Function)
    → slice_get functions i ≡ Some whole → slice_get (headed_functions functions) i ≡ Some (headed_function (i, whole))
headed_functions-at functions i whole at = numbered-at headed_function 0 i functions whole at ∙ ap (λ n. Some (headed_function (n, whole))) (omega arith)

pub headed_entry_points-at : (entry_points : List entry_point.EntryPoint) (i : ℕ) (entry : entry_point.EntryPoint)
    → slice_get entry_points i ≡ Some entry → slice_get (headed_entry_points entry_points) i ≡ Some (headed_entry_point (i, entry))
headed_entry_points-at entry_points i entry at =
    numbered-at headed_entry_point 0 i entry_points entry at ∙ ap (λ n. Some (headed_entry_point (n, entry))) (omega arith)

-- ---- lines

-- all elements with their positions were gone over
pub AddsJoined-numbered : {X Y B : Type 0} (f : ℕ × X → Y) (Gives : Y → List B → Type 0) (xs : List X) (i : ℕ) (old new : List B) → length xs ≤ i
    → AddsJoined Gives (take i (map f (enumerate_from 0 xs))) old new → AddsJoined Gives (map f (enumerate_from 0 xs)) old new
AddsJoined-numbered f Gives xs i old new past adds =
    let len = numbered-length f 0 xs in
    AddsJoined-all Gives (map f (enumerate_from 0 xs)) i old new (omega (arith, len, past)) adds

module _ (IsLineOf : Headed → List ℕ → Type 0) where
  -- all functions were gone over
  pub AddsJoined-functions : (functions : List function.Function) (i : ℕ) (old new : List ℕ) → length functions ≤ i
      → AddsJoined IsLineOf (take i (headed_functions functions)) old new → AddsJoined IsLineOf (headed_functions functions) old new
  AddsJoined-functions functions i old new past adds = AddsJoined-numbered headed_function IsLineOf functions i old new past adds

  pub AddsJoined-entry_points : (entry_points : List entry_point.EntryPoint) (i : ℕ) (old new : List ℕ) → length entry_points ≤ i
      → AddsJoined IsLineOf (take i (headed_entry_points entry_points)) old new → AddsJoined IsLineOf (headed_entry_points entry_points) old new
  AddsJoined-entry_points entry_points i old new past adds = AddsJoined-numbered headed_entry_point IsLineOf entry_points i old new past adds

  -- the lines of functions, and then those of others, if these were gone over without an error
  pub AddsJoined-after : {T E : Type 0} (r : Result T E) (bodies others : List Headed) (old middle new : List ℕ)
      → AddsJoined IsLineOf bodies old middle → OnOk r (AddsJoined IsLineOf others middle new) → OnOk r (AddsJoined IsLineOf (bodies ++ others) old new)
  AddsJoined-after (Ok value) bodies others old middle new first second = AddsJoined-joined IsLineOf bodies others old middle new first second
  AddsJoined-after (Err error) bodies others old middle new first second = tt

-- ---- the line of a function

-- a line ends in its only newline
line_parts : (head colon found newline : List ℕ) → head ++ (colon ++ (found ++ newline)) ≡ (head ++ (colon ++ found)) ++ newline
line_parts head colon found newline = simp append_assoc

pub fault_line-line : (head said : List ℕ) → IsPlain head → IsLine (fault_line head said)
fault_line-line head said plain =
    let shown = visible said in
    (head ++ (codes ": " ++ shown), Spells-append plain (Spells-after (codes ": ") refl (visible-plain said)), line_parts head (codes ": ") shown (codes "\n"))

-- the line of a body in which a check found a fault
pub AddsBodyLine-pushed : {T E : Type 0} (r : Result T E) (headed : Headed) (said old new : List ℕ) → IsPlain headed.head
    → ¬ BodyPasses headed.whole → IsBodyFault headed.whole said → OnOk r (new ≡ old ++ fault_line headed.head said)
    → OnOk r (Adds IsBodyLine headed old new)
AddsBodyLine-pushed (Err error) headed said old new plain fails found is = tt
AddsBodyLine-pushed (Ok value) headed said old new plain fails found is =
    (fault_line headed.head said, inr (fails, fault_line-line headed.head said plain, (said, found, refl)), is)

-- the line of a fault of types
pub AddsTypeLine-pushed : {T E : Type 0} (r : Result T E) (headed : Headed) (found : TypeFault) (said old new : List ℕ) → IsPlain headed.head
    → IsSaidOfTypes headed.whole found said → OnOk r (new ≡ old ++ fault_line headed.head said) → OnOk r (Adds (IsTypeLine headed) found old new)
AddsTypeLine-pushed (Err error) headed found said old new plain is appended = tt
AddsTypeLine-pushed (Ok value) headed found said old new plain is appended =
    (fault_line headed.head said, (fault_line-line headed.head said plain, (said, is, refl)), appended)

-- the lines of all faults of the types of a function
pub AddsTypeLines-joined : {T E : Type 0} (r : Result T E) (whole : the_module.Module) (limit : ℕ) (headed : Headed) (faults : List TypeFault) (old new : List ℕ)
    → AreFirstFaults whole headed.whole limit faults → OnOk r (AddsJoined (IsTypeLine headed) faults old new)
    → OnOk r (Adds (AreTypeLines whole limit) headed old new)
AddsTypeLines-joined (Err error) whole limit headed faults old new are adds = tt
AddsTypeLines-joined (Ok value) whole limit headed faults old new are adds = (adds.0, (faults, are, adds.1), adds.2)

-- the line of a body, and then those of types
pub AddsFunctionLines-both : {T E : Type 0} (r : Result T E) (whole : the_module.Module) (limit : ℕ) (headed : Headed) (old middle new : List ℕ)
    → Adds IsBodyLine headed old middle → OnOk r (Adds (AreTypeLines whole limit) headed middle new)
    → OnOk r (Adds (AreFunctionLines whole limit) headed old new)
AddsFunctionLines-both (Err error) whole limit headed old middle new first second = tt
AddsFunctionLines-both (Ok value) whole limit headed old middle new first second = (
  first.0 ++ second.0,
  record { body = first.0; of_body = first.1; types = second.0; of_types = second.1; joined = refl },
  second.2 ∙ ap (λ t. t ++ second.0) first.2 ∙ append_assoc old first.0 second.0,
)

-- what the lines begin with
pub headed_function-plain : (entry : ℕ × function.Function) → IsPlain (headed_function entry).head
headed_function-plain entry = declared_text-plain (codes "function") refl entry.0 (text_of (entry.1).name)

pub headed_entry_point-plain : (entry : ℕ × entry_point.EntryPoint) → IsPlain (headed_entry_point entry).head
headed_entry_point-plain entry =
    Spells-after (codes "entry point") refl (Spells-append (number-plain entry.0) (quoted-plain (string_bytes (entry.1).name)))

-- the parts of a report, one after another
pub report-parts : (faults summary accesses emits layout notes : List ℕ)
    → (((((faults ++ summary) ++ accesses) ++ emits) ++ layout) ++ notes) ≡ faults ++ (summary ++ (accesses ++ (emits ++ (layout ++ notes))))
report-parts faults summary accesses emits layout notes = simp append_assoc

-- ---- the lines of declarations

-- what the lines begin with
initialized_text-plain : (declared : Initialized) → IsPlain (initialized_text declared)
initialized_text-plain (initial.Constant handle) = Spells-after (codes "constant") refl (number-plain handle)
initialized_text-plain (initial.Override handle) = Spells-after (codes "override") refl (number-plain handle)
initialized_text-plain (initial.GlobalVariable handle) = Spells-after (codes "global variable") refl (number-plain handle)
initialized_text-plain (initial.LocalVariable handle) = Spells-after (codes "local variable") refl (number-plain handle)

expression_text-plain : (handle : ℕ) → IsPlain (expression_text handle)
expression_text-plain handle = Spells-after (codes "global expression") refl (number-plain handle)

fault_head-plain : (found : ValueFault) → IsPlain (fault_head found)
fault_head-plain (fault.NoType expression error) = Spells-append (expression_text-plain expression) (Spells-ascii (codes " has no type") refl)
fault_head-plain (fault.Operand expression unmet) = expression_text-plain expression
fault_head-plain (fault.Initial declared unmet) = initialized_text-plain declared

-- what was appended, by another name
pub OnOk-appended : {T E : Type 0} (r : Result T E) (old new text other : List ℕ) → text ≡ other → OnOk r (new ≡ old ++ text) → OnOk r (new ≡ old ++ other)
OnOk-appended (Err error) old new text other same is = tt
OnOk-appended (Ok value) old new text other same is = is ∙ ap (λ t. old ++ t) same

-- the same in two steps
pub OnOk-appended_after : {T E : Type 0} (r : Result T E) (old middle new first second other : List ℕ) → middle ≡ old ++ first
    → first ++ second ≡ other → OnOk r (new ≡ middle ++ second) → OnOk r (new ≡ old ++ other)
OnOk-appended_after (Err error) old middle new first second other before same is = tt
OnOk-appended_after (Ok value) old middle new first second other before same is =
    is ∙ ap (λ t. t ++ second) before ∙ append_assoc old first second ∙ ap (λ t. old ++ t) same

-- what the line of a fault begins with, and then what a check found
pub Adds-fault_line : {T E : Type 0} (r : Result T E) (found : ValueFault) (said old middle new : List ℕ) → IsSaid found said → middle ≡ old ++ fault_head found
    → OnOk r (new ≡ middle ++ (codes ": " ++ (visible said ++ codes "\n"))) → OnOk r (Adds IsDeclarationLine found old new)
Adds-fault_line (Err error) found said old middle new is before after = tt
Adds-fault_line (Ok value) found said old middle new is before after =
    let head = fault_head found in
    let rest = codes ": " ++ (visible said ++ codes "\n") in
    let content = Spells-append (fault_head-plain found) (Spells-after (codes ": ") refl (visible-plain said)) in
    let line : IsLine (head ++ rest) = (head ++ (codes ": " ++ visible said), content, line_parts head (codes ": ") (visible said) (codes "\n")) in (
      head ++ rest,
      (line, (said, is, refl)),
      after ∙ ap (λ t. t ++ rest) before ∙ append_assoc old head rest,
    )

-- the lines of all faults of the declarations
pub AddsDeclarationLines-joined : {T E : Type 0} (r : Result T E) (whole : the_module.Module) (faults : List ValueFault) (old new : List ℕ)
    → AreFaultsOfDeclarations whole faults → OnOk r (AddsJoined IsDeclarationLine faults old new) → OnOk r (AddsDeclarationLines whole old new)
AddsDeclarationLines-joined (Err error) whole faults old new are adds = tt
AddsDeclarationLines-joined (Ok value) whole faults old new are adds = (adds.0, (faults, are, adds.1), adds.2)

-- ---- whether there is a line

-- a line counts
counted : (line : List ℕ) → IsLine line → ¬ (line_count line ≡ 0)
counted line is none = line_count-line line [] is (ap line_count (append-nil line) ∙ none)

both-none : (first second : List ℕ) → line_count (first ++ second) ≡ 0 → (line_count first ≡ 0) × (line_count second ≡ 0)
both-none first second none =
    let both = line_count-append first second in
    let first_none : line_count first ≡ 0 = omega (arith, both, none) in
    let second_none : line_count second ≡ 0 = omega (arith, both, none) in
    (first_none, second_none)

pub take-none : {X : Type 0} (limit : ℕ) (xs : List X) → 1 ≤ limit → take limit xs ≡ [] → xs ≡ []
take-none limit [] some none = refl
take-none zero (x ∷ xs) some none = (let bad : ⊥ = omega (arith, some) in absurd bad)
take-none (suc limit) (x ∷ xs) some none = cc

-- each of these has a line
module _ {X : Type 0} (IsLineOf : X → List ℕ → Type 0) (shown : (x : X) (line : List ℕ) → IsLineOf x line → IsLine line) where
  -- if there are no lines, there are none of these
  none-listed : (xs : List X) (lines : List (List ℕ)) → AllZip IsLineOf xs lines → line_count (flat_map (λ (line : List ℕ). line) lines) ≡ 0 → xs ≡ []
  none-listed [] lines zip none = refl
  none-listed (x ∷ xs) [] zip none = absurd zip
  none-listed (x ∷ xs) (line ∷ lines) zip none =
      absurd (line_count-line line (flat_map (λ (line : List ℕ). line) lines) (shown x line zip.0) none)

  -- if there are none of these, there are no lines
  listed-none : (xs : List X) (lines : List (List ℕ)) → AllZip IsLineOf xs lines → xs ≡ [] → flat_map (λ (line : List ℕ). line) lines ≡ []
  listed-none [] [] zip none = refl
  listed-none [] (line ∷ lines) zip none = absurd zip
  listed-none (x ∷ xs) lines zip none = cc

declaration-shown : (found : ValueFault) (line : List ℕ) → IsDeclarationLine found line → IsLine line
declaration-shown found line is = is.0

type-shown : (headed : Headed) (found : TypeFault) (line : List ℕ) → IsTypeLine headed found line → IsLine line
type-shown headed found line is = is.0

pub limit_of-some : (extent : Extent) → 1 ≤ limit_of extent
limit_of-some Short = omega arith
limit_of-some Full = omega arith

map-same : {X : Type 0} (xs : List X) → map (λ (x : X). x) xs ≡ xs
map-same [] = refl
map-same (x ∷ xs) = ap (λ t. x ∷ t) (map-same xs)

module _ (whole : the_module.Module) where
  abbrev PassesHeaded : Headed → Type 0
  PassesHeaded headed = Passes whole headed.whole

  -- a body without a line passes
  body-none : (headed : Headed) (line : List ℕ) → IsBodyLine headed line → line_count line ≡ 0 → BodyPasses headed.whole
  body-none headed line is none = elim is [
    | inl passed ↦ passed.0
    | inr failed ↦ absurd (counted line failed.1 none)
  ]

  none-body : (headed : Headed) (line : List ℕ) → IsBodyLine headed line → BodyPasses headed.whole → line ≡ []
  none-body headed line is passes = elim is [
    | inl passed ↦ passed.1
    | inr failed ↦ absurd (failed.0 passes)
  ]

  module _ (limit : ℕ) (some : 1 ≤ limit) where
    -- a function without lines of its types is typed
    types-none : (headed : Headed) (text : List ℕ) → AreTypeLines whole limit headed text → line_count text ≡ 0 → FunctionIsTyped whole headed.whole
    types-none headed text are none =
        let listed : are.0 ≡ [] = none-listed (IsTypeLine headed) (type-shown headed) are.0 are.2.lists are.2.each (ap line_count (sym are.2.are) ∙ none) in
        let all : are.1.0 ≡ [] = take-none limit are.1.0 some (sym are.1.2 ∙ listed) in
        (AreFaultsOfFunction-none whole headed.whole are.1.0 are.1.1).0 all

    none-types : (headed : Headed) (text : List ℕ) → AreTypeLines whole limit headed text → FunctionIsTyped whole headed.whole → text ≡ []
    none-types headed text are typed =
        let all : are.1.0 ≡ [] = (AreFaultsOfFunction-none whole headed.whole are.1.0 are.1.1).1 typed in
        let listed : are.0 ≡ [] = are.1.2 ∙ ap (take limit) all ∙ take-nil limit in
        are.2.are ∙ listed-none (IsTypeLine headed) (type-shown headed) are.0 are.2.lists are.2.each listed

    -- if there are no lines, all functions pass
    none-pass : (bodies : List Headed) (lines : List (List ℕ)) → AllZip (AreFunctionLines whole limit) bodies lines
        → line_count (flat_map (λ (line : List ℕ). line) lines) ≡ 0 → All PassesHeaded bodies
    none-pass [] [] zip none = All-nil PassesHeaded
    none-pass [] (line ∷ lines) zip none = absurd zip
    none-pass (headed ∷ bodies) [] zip none = absurd zip
    none-pass (headed ∷ bodies) (line ∷ lines) zip none =
        let parts = both-none line (flat_map (λ (line : List ℕ). line) lines) none in
        let here = zip.0 in
        let both = both-none here.body here.types (ap line_count (sym here.joined) ∙ parts.0) in
        All-cons PassesHeaded headed bodies
        (body-none headed here.body here.of_body both.0, types-none headed here.types here.of_types both.1)
        (none-pass bodies lines zip.1 parts.1)

    -- if all functions pass, there are no lines
    pass-none : (bodies : List Headed) (lines : List (List ℕ)) → AllZip (AreFunctionLines whole limit) bodies lines
        → All PassesHeaded bodies → flat_map (λ (line : List ℕ). line) lines ≡ []
    pass-none [] [] zip pass = refl
    pass-none [] (line ∷ lines) zip pass = absurd zip
    pass-none (headed ∷ bodies) [] zip pass = absurd zip
    pass-none (headed ∷ bodies) (line ∷ lines) zip pass =
        let here = zip.0 in
        let passes = All-head PassesHeaded headed bodies pass in
        let body : here.body ≡ [] = none-body headed here.body here.of_body passes.0 in
        let types : here.types ≡ [] = none-types headed here.types here.of_types passes.1 in
        let empty : line ≡ [] = here.joined ∙ (λ i. body i ++ types i) in
        λ i. empty i ++ pass-none bodies lines zip.1 (All-tail PassesHeaded headed bodies pass) i

  -- the function in something passes
  abbrev pub PassesIn : {Y : Type 0} → (Y → function.Function) → Y → Type 0
  PassesIn inside one = Passes whole (inside one)

  abbrev pub FunctionsPass : Type 0
  FunctionsPass = All (Passes whole) (functions_of whole) × All (Passes whole) (functions_of_entries whole.entry_points.items)

  module _ {Y : Type 0} (inside : Y → function.Function) where
    -- what holds of all functions holds of all that are made of functions and their positions
    module _ {X : Type 0} (f : ℕ × X → Y) (g : X → function.Function) (same : (entry : ℕ × X) → inside (f entry) ≡ g entry.1) where
      numbered-passes : (k : ℕ) (xs : List X) → All (Passes whole) (map g xs) → All (PassesIn inside) (map f (enumerate_from k xs))
      numbered-passes k [] pass = All-nil (PassesIn inside)
      numbered-passes k (x ∷ xs) pass =
          All-cons (PassesIn inside) (f (k, x)) (map f (enumerate_from (k + 1) xs))
          (subst (Passes whole) (sym (same (k, x))) (All-head (Passes whole) (g x) (map g xs) pass))
          (numbered-passes (k + 1) xs (All-tail (Passes whole) (g x) (map g xs) pass))

      passes-numbered : (k : ℕ) (xs : List X) → All (PassesIn inside) (map f (enumerate_from k xs)) → All (Passes whole) (map g xs)
      passes-numbered k [] pass = All-nil (Passes whole)
      passes-numbered k (x ∷ xs) pass =
          All-cons (Passes whole) (g x) (map g xs)
          (subst (Passes whole) (same (k, x)) (All-head (PassesIn inside) (f (k, x)) (map f (enumerate_from (k + 1) xs)) pass))
          (passes-numbered (k + 1) xs (All-tail (PassesIn inside) (f (k, x)) (map f (enumerate_from (k + 1) xs)) pass))

    module _ (f : ℕ × function.Function → Y) (h : ℕ × entry_point.EntryPoint → Y) (same : (entry : ℕ × function.Function) → inside (f entry) ≡ entry.1)
        (alike : (entry : ℕ × entry_point.EntryPoint) → inside (h entry) ≡ (entry.1).function) where
      abbrev Functions : List Y
      Functions = map f (enumerate_from 0 (values whole.functions))

      abbrev Entries : List Y
      Entries = map h (enumerate_from 0 whole.entry_points.items)

      pub pass-bodies : FunctionsPass → All (PassesIn inside) (Functions ++ Entries)
      pass-bodies pass =
          All-append (PassesIn inside) Functions Entries
          (numbered-passes f (λ (declared : function.Function). declared) same 0 (values whole.functions)
          (subst (All (Passes whole)) (sym (map-same (values whole.functions))) pass.0))
          (numbered-passes h (λ (entry : entry_point.EntryPoint). entry.function) alike 0 whole.entry_points.items pass.1)

      pub bodies-pass : All (PassesIn inside) (Functions ++ Entries) → FunctionsPass
      bodies-pass all =
          let parts = All-both (PassesIn inside) Functions Entries all in (
            subst (All (Passes whole)) (map-same (values whole.functions))
                (passes-numbered f (λ (declared : function.Function). declared) same 0 (values whole.functions) parts.0),
            passes-numbered h (λ (entry : entry_point.EntryPoint). entry.function) alike 0 whole.entry_points.items parts.1,
          )

  pass-headed : FunctionsPass → All PassesHeaded (headed_bodies whole)
  pass-headed pass = pass-bodies (λ (headed : Headed). headed.whole) headed_function headed_entry_point (λ entry. refl) (λ entry. refl) pass

  headed-pass : All PassesHeaded (headed_bodies whole) → FunctionsPass
  headed-pass all = bodies-pass (λ (headed : Headed). headed.whole) headed_function headed_entry_point (λ entry. refl) (λ entry. refl) all

  -- there is no line of the declarations exactly if they are typed
  declared-typed : (declared : List ℕ) → AreDeclarationLines whole declared → line_count declared ≡ 0 → DeclarationsAreTyped whole
  declared-typed declared are none =
      (AreFaultsOfDeclarations-none whole are.0 are.1).0
      (none-listed IsDeclarationLine declaration-shown are.0 are.2.lists are.2.each (ap line_count (sym are.2.are) ∙ none))

  typed-declared : (declared : List ℕ) → AreDeclarationLines whole declared → DeclarationsAreTyped whole → declared ≡ []
  typed-declared declared are typed =
      are.2.are ∙ listed-none IsDeclarationLine declaration-shown are.0 are.2.lists are.2.each ((AreFaultsOfDeclarations-none whole are.0 are.1).1 typed)

  -- if there is no line, the module passes
  none-passes : (extent : Extent) (declared faults : List ℕ) → AreDeclarationLines whole declared
      → AreJoined (AreFunctionLines whole (limit_of extent)) (headed_bodies whole) faults → line_count (declared ++ faults) ≡ 0 → ModulePasses whole
  none-passes extent declared faults is are none =
      let parts = both-none declared faults none in
      let pass = headed-pass (none-pass (limit_of extent) (limit_of-some extent) (headed_bodies whole) are.lists are.each (ap line_count (sym are.are) ∙ parts.1)) in
      (declared-typed declared is parts.0, pass.0, pass.1)

  -- if the module passes, there is no line
  passes-none : (extent : Extent) (declared faults : List ℕ) → AreDeclarationLines whole declared
      → AreJoined (AreFunctionLines whole (limit_of extent)) (headed_bodies whole) faults → ModulePasses whole → declared ++ faults ≡ []
  passes-none extent declared faults is are pass =
      let none : faults ≡ [] = are.are ∙ pass-none (limit_of extent) (limit_of-some extent) (headed_bodies whole) are.lists are.each (pass-headed (pass.1, pass.2)) in
      let declared_none = typed-declared declared is pass.0 in
      λ j. declared_none j ++ none j

  -- there are lines exactly if the module does not pass
  pub line_count-passes : (extent : Extent) (text : List ℕ) (number : ℕ) → AreFaults whole extent text → number ≡ line_count text → number ≢ 0 ↔ (¬ ModulePasses whole)
  line_count-passes extent text number are is = (
    λ some pass. some (is ∙ ap line_count (are.joined ∙ passes-none extent are.declared are.faults are.of_declarations are.of_functions pass)),
    λ fails none. fails
        (none-passes extent are.declared are.faults are.of_declarations are.of_functions (ap line_count (sym are.joined) ∙ sym is ∙ none)),
  )
