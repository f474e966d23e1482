-- The findings on a module, one after another: lemmas on specs/Findings.antt.
use Rattle.std.proofs.Common.{◌≡◌, ◌∙◌, inl, inr, refl, sym, ap, subst, ℕ, ◌+◌, ◌≤◌, List, [], ◌∷◌, ◌++◌, length, map, take, Option, Some, append-nil, append_assoc, arith}
use Rattle.std.proofs.lemmas.List.{map-append, take_all, take_more}
use Rattle.std.proofs.lemmas.Option.{get_or_from_slice_get, slice_get_within}
use Rattle.std.specs.Prelude.{◌≢◌, OnOk, Result, Ok, Err, None, slice_get}
use Rattle.naga_bounds.specs.Modules.{typed_in}
use Rattle.naga_bounds.specs.Unfit.{unfit_accesses}
use Rattle.naga_flow.specs.Bodies.{BodyPasses, HasFault}
use Rattle.naga_flow.specs.declared.bodies.BodyOwner.{BodyOwner}
use Rattle.naga_flow.specs.declared.bodies.InvalidBody.{InvalidBody}
use Rattle.naga_flow.specs.declared.bodies.InvalidBody.TheVariants as body
use Rattle.naga_flow.specs.declared.invalid_use.Misuse.{Misuse}
use Rattle.naga_flow.specs.declared.misplaced_jump.MisplacedJump.{MisplacedJump}
use Rattle.naga_ir.specs.declared.module.EntryPoint as entry_point
use Rattle.naga_ir.specs.declared.module.Function as function
use Rattle.naga_ir.specs.declared.module.Module as the_module
use Rattle.naga_typing.specs.DeclarationFaults.{AreFaultsOfDeclarations}
use Rattle.naga_typing.specs.FunctionFaults.{AreFirstFaults}
use Rattle.naga_typing.specs.Joined.{Adds, AddsJoined}
use Rattle.naga_typing.specs.Messages.{unmet_text, value_fault_text}
use Rattle.naga_typing.specs.declared.invalid_types.TypeFault.{TypeFault}
use Rattle.naga_typing.specs.declared.invalid_types.Unmet.{Unmet}
use Rattle.naga_typing.specs.declared.invalid_types.ValueFault.{ValueFault}
use Rattle.naga_look.specs.Emits.{LacksEmit}
use Rattle.naga_look.specs.Findings.{AreBodyFaults, AreDeclarationFaults, AreEmits, AreFindingsInside, AreTypeFaults, Inside, IsBodyFault, IsDeclarationFault, IsTypeFault, IsUnmet, IsValueFault, Says, access_finding, declaration_fault, expression_at_fault, finding_in, inside_entry_point, inside_entry_points, inside_function, inside_functions, owner_at_fault, path_in, return_finding}
use Rattle.naga_look.specs.OpenEnds.{missing_returns}
use Rattle.naga_look.specs.declared.finding.Finding.{Finding}
use Rattle.naga_look.specs.declared.finding.FindingKind.{FindingKind}
use Rattle.naga_look.specs.declared.finding.FindingKind.TheVariants.{Fault}
use Rattle.naga_look.specs.declared.finding.FindingOwner.{FindingOwner}
use Rattle.naga_look.specs.declared.finding.FindingOwner.TheVariants.{Body}
use Rattle.naga_look.proofs.ReportLemmas.{numbered-at}

-- a finding of these parts in a function or an entry point
abbrev pub finding_of : FindingKind → BodyOwner → (name path : Option (List ℕ)) → (expression : Option ℕ) → (message : List ℕ) → Finding
finding_of kind owner name path expression message =
    record { kind = kind; owner = Body owner; name = name; path = path; expression = expression; message = message }

-- ---- one finding for each

module _ {X B : Type 0} (f : X → B) where
  pub mapped-none : (xs : List X) (old : List B) → old ≡ old ++ map f (take 0 xs)
  mapped-none xs old = sym (append-nil old)

  pub mapped-next : (xs : List X) (i : ℕ) (x : X) (old middle new : List B)
      → slice_get xs i ≡ Some x → middle ≡ old ++ map f (take i xs) → new ≡ middle ++ f x ∷ [] → new ≡ old ++ map f (take (i + 1) xs)
  mapped-next xs i x old middle new found before here =
      let more : take (i + 1) xs ≡ take i xs ++ x ∷ [] =
      take_more xs i x (slice_get_within xs i x found) ∙ ap (λ one. take i xs ++ one ∷ []) (get_or_from_slice_get xs i x x found) in
      here ∙ ap (λ all. all ++ f x ∷ []) before ∙ append_assoc old (map f (take i xs)) (f x ∷ [])
      ∙ ap (λ all. old ++ all) (sym (ap (map f) more ∙ map-append f (take i xs) (x ∷ [])))

  pub mapped-all : (xs : List X) (i : ℕ) (old new : List B) → length xs ≤ i → new ≡ old ++ map f (take i xs) → new ≡ old ++ map f xs
  mapped-all xs i old new past before = before ∙ ap (λ those. old ++ map f those) (take_all i xs past)

-- ---- the functions of a module

pub inside_functions-at : (functions : List function.Function) (i : ℕ) (whole : function.Function)
    → slice_get functions i ≡ Some whole → slice_get (inside_functions functions) i ≡ Some (inside_function (i, whole))
inside_functions-at functions i whole at = numbered-at inside_function 0 i functions whole at ∙ ap (λ n. Some (inside_function (n, whole))) (omega arith)

pub inside_entry_points-at : (entry_points : List entry_point.EntryPoint) (i : ℕ) (entry : entry_point.EntryPoint)
    → slice_get entry_points i ≡ Some entry → slice_get (inside_entry_points entry_points) i ≡ Some (inside_entry_point (i, entry))
inside_entry_points-at entry_points i entry at =
    numbered-at inside_entry_point 0 i entry_points entry at ∙ ap (λ n. Some (inside_entry_point (n, entry))) (omega arith)

-- ---- the findings in a function

-- a fault is not that an allocation failed
pub jump-other : (fault : MisplacedJump) → body.Jump fault ≢ body.Memory
jump-other fault same = cc

pub misuse-other : (misuse : Misuse) → body.Use misuse ≢ body.Memory
misuse-other misuse same = cc

module _ {T E : Type 0} where
  -- the fault of a body
  pub AddsBodyFault-found : (r : Result T E) (inside : Inside) (error : InvalidBody) (one : Finding) (old new : List Finding)
      → ¬ BodyPasses inside.whole → HasFault inside.whole error → IsBodyFault inside error (one ∷ []) → OnOk r (new ≡ old ++ one ∷ [])
      → OnOk r (Adds AreBodyFaults inside old new)
  AddsBodyFault-found (Err failed) inside error one old new fails has is added = tt
  AddsBodyFault-found (Ok value) inside error one old new fails has is added = (one ∷ [], inr (fails, (error, has, is)), added)

  -- a fault of an expression or of an initial value
  pub AddsValueFault-said : (r : Result T E) (inside : Inside) (fault : ValueFault) (said : List ℕ) (old new : List Finding)
      → Says (value_fault_text fault) said
      → OnOk r (new ≡ old ++ finding_in Fault inside None (expression_at_fault fault) said ∷ []) → OnOk r (Adds (IsValueFault inside) fault old new)
  AddsValueFault-said (Err failed) inside fault said old new says added = tt
  AddsValueFault-said (Ok value) inside fault said old new says added =
      (finding_in Fault inside None (expression_at_fault fault) said ∷ [], (said, says, refl), added)

  -- a requirement that is not met
  pub AddsUnmet-said : (r : Result T E) (inside : Inside) (statement : ℕ) (unmet : Unmet) (said : List ℕ) (old new : List Finding)
      → Says (unmet_text unmet) said → OnOk r (new ≡ old ++ finding_in Fault inside (path_in inside statement) None said ∷ [])
      → OnOk r (Adds (IsUnmet inside statement) unmet old new)
  AddsUnmet-said (Err failed) inside statement unmet said old new says added = tt
  AddsUnmet-said (Ok value) inside statement unmet said old new says added =
      (finding_in Fault inside (path_in inside statement) None said ∷ [], (said, says, refl), added)

  -- all faults of the types of a function
  pub AddsTypeFaults-joined : (r : Result T E) (whole : the_module.Module) (limit : ℕ) (inside : Inside) (faults : List TypeFault) (old new : List Finding)
      → AreFirstFaults whole inside.whole limit faults → OnOk r (AddsJoined (IsTypeFault inside) faults old new)
      → OnOk r (Adds (AreTypeFaults whole limit) inside old new)
  AddsTypeFaults-joined (Err failed) whole limit inside faults old new are adds = tt
  AddsTypeFaults-joined (Ok value) whole limit inside faults old new are adds = (adds.0, (faults, are, adds.1), adds.2)

  -- all findings in a function
  pub AddsFindings-all : (r : Result T E) (whole : the_module.Module) (limit : ℕ) (inside : Inside) (old first second third fourth new : List Finding)
      → Adds AreBodyFaults inside old first → Adds (AreTypeFaults whole limit) inside first second → Adds AreEmits inside second third
      → fourth ≡ third ++ map (return_finding inside) (missing_returns limit inside.whole)
      → OnOk r (new ≡ fourth ++ map (access_finding inside) (take limit (unfit_accesses (typed_in whole inside.whole))))
      → OnOk r (Adds (AreFindingsInside whole limit) inside old new)
  AddsFindings-all (Err failed) whole limit inside old first second third fourth new body types emits returns accesses = tt
  AddsFindings-all (Ok value) whole limit inside old first second third fourth new body types emits returns accesses =
      let ends = map (return_finding inside) (missing_returns limit inside.whole) in
      let reads = map (access_finding inside) (take limit (unfit_accesses (typed_in whole inside.whole))) in
      let parts : ((((old ++ body.0) ++ types.0) ++ emits.0) ++ ends) ++ reads ≡ old ++ (body.0 ++ (types.0 ++ (emits.0 ++ (ends ++ reads)))) = simp append_assoc in (
        body.0 ++ (types.0 ++ (emits.0 ++ (ends ++ reads))),
        record { body = body.0; of_body = body.1; types = types.0; of_types = types.1; emits = emits.0; of_emits = emits.1; joined = refl },
        accesses
            ∙ ap (λ t. t ++ reads) returns
            ∙ ap (λ t. (t ++ ends) ++ reads) emits.2
            ∙ ap (λ t. ((t ++ emits.0) ++ ends) ++ reads) types.2
            ∙ ap (λ t. (((t ++ types.0) ++ emits.0) ++ ends) ++ reads) body.2
            ∙ parts,
      )

  -- that a function lacks an `Emit`
  pub AddsEmit-found : (r : Result T E) (inside : Inside) (one : Finding) (old new : List Finding) → AreEmits inside (one ∷ [])
      → OnOk r (new ≡ old ++ one ∷ []) → OnOk r (Adds AreEmits inside old new)
  AddsEmit-found (Err failed) inside one old new are added = tt
  AddsEmit-found (Ok value) inside one old new are added = (one ∷ [], are, added)

  -- ---- the findings in declarations

  -- all faults of the declarations
  pub AddsDeclarationFaults-joined : (r : Result T E) (whole : the_module.Module) (faults : List ValueFault) (old new : List Finding)
      → AreFaultsOfDeclarations whole faults → OnOk r (AddsJoined IsDeclarationFault faults old new)
      → OnOk r (Adds AreDeclarationFaults whole old new)
  AddsDeclarationFaults-joined (Err failed) whole faults old new are adds = tt
  AddsDeclarationFaults-joined (Ok value) whole faults old new are adds = (adds.0, (faults, are, adds.1), adds.2)

-- a body that passes has no fault
pub AddsBodyFaults-none : (inside : Inside) (old : List Finding) → BodyPasses inside.whole → Adds AreBodyFaults inside old old
AddsBodyFaults-none inside old passes = ([], inl (passes, refl), sym (append-nil old))

-- nothing is found in a function that lacks no `Emit`
pub AddsEmits-none : (inside : Inside) (old : List Finding) → ¬ LacksEmit inside.whole → Adds AreEmits inside old old
AddsEmits-none inside old has = ([], inl (has, refl), sym (append-nil old))

-- a fault of a declaration
pub AddsDeclarationFault-pushed : (fault : ValueFault) (said message : List ℕ) (owner : FindingOwner) (expression : Option ℕ) (old new : List Finding)
    → Says (value_fault_text fault) said → message ≡ said → owner ≡ owner_at_fault fault → expression ≡ expression_at_fault fault
    → new ≡ old ++ (record { kind = Fault; owner = owner; name = None; path = None; expression = expression; message = message }) ∷ []
    → Adds IsDeclarationFault fault old new
AddsDeclarationFault-pushed fault said message owner expression old new says same is_owner is_expression pushed = (
  declaration_fault fault said ∷ [],
  (said, says, refl),
  pushed ∙ (λ i. old ++ (record { kind = Fault; owner = is_owner i; name = None; path = None; expression = is_expression i; message = same i }) ∷ []),
)
