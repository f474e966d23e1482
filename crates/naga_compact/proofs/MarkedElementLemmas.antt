-- Marking an element of a module: which elements are marked afterwards.
use Rattle.std.proofs.Common.{◌≡◌, ◌∙◌, sym, ap, subst, refl, inl, inr, ◌⊎◌, ℕ, ◌+◌, ◌<◌, ◌≤◌, length, Bool, true, false, ◌&&◌, not, arith, true≢false}
use Rattle.std.proofs.lemmas.Bool.{cases_lt}
use Rattle.std.proofs.lemmas.Bool.Decides.{nat_tests}
use Rattle.std.specs.FinSet.{contains}
use Rattle.std.specs.Prelude.{if◌then◌else◌, nat_lt}
use Rattle.naga_ir.specs.declared.module.Module as the_module
use Rattle.naga_sets.specs.HandleSet.{BoundedSet}
use Rattle.naga_valid.specs.declared.reference.Reference.{Reference}
use Rattle.naga_valid.specs.declared.reference.Reference.TheVariants.{«Type», Constant, Override, GlobalVariable, GlobalExpression, Function}
use Rattle.naga_compact.specs.Module.References.{IsElement}
use Rattle.naga_compact.specs.Module.Used.{AreBoundsOf, is_member, nothing_used}
use Rattle.naga_compact.specs.Module.Visits.{is_new, is_new_member, mark, unmarked}
use Rattle.naga_compact.specs.declared.module.used.UsedHandles.{UsedHandles}
use Rattle.naga_compact.proofs.AbsentLemmas.{absent-none, absent-put}
use Rattle.naga_compact.proofs.MarkLemmas.{put-bound, put-has, put-new, put-old}

-- ---- sets

new_member-parts : (s : BoundedSet) (h : ℕ) → is_new_member s h ≡ true → (h < s.bound) × (contains s.members h ≡ false)
new_member-parts s h new = elim (cases_lt h s.bound) [
  | inl lt ↦
      let inside : nat_lt h s.bound ≡ true = grind (arith, nat_tests) in
      (lt, absent_if (contains s.members h) (ap (λ b. b && not (contains s.members h)) (sym inside) ∙ new))
  | inr ge ↦
      let outside : nat_lt h s.bound ≡ false = grind (arith, nat_tests) in
      absurd (true≢false (sym new ∙ ap (λ b. b && not (contains s.members h)) outside))
]
  where
    absent_if : (b : Bool) → not b ≡ true → b ≡ false
    absent_if true h = sym h
    absent_if false h = refl

new_member-is : (s : BoundedSet) (h : ℕ) → h < s.bound → contains s.members h ≡ false → is_new_member s h ≡ true
new_member-is s h lt missing =
    let inside : nat_lt h s.bound ≡ true = grind (arith, nat_tests) in
    (λ i. inside i && not (missing i))

-- ---- elements

-- the same for the elements with these handles
named_alike : {Old : Type 0} (element : ℕ → Reference) (P : ℕ → Type 0) (q h : ℕ) → Old ⊎ ((q ≡ h) × P q) → Old ⊎ ((element q ≡ element h) × P q)
named_alike element P q h (inl old) = inl old
named_alike element P q h (inr new) = inr (ap element new.0, new.1)

-- the set of the element's arena has space for it
abbrev pub HasSpace : UsedHandles → Reference → Type 0
HasSpace used («Type» handle) = handle < used.types_used.bound
HasSpace used (Constant handle) = handle < used.constants_used.bound
HasSpace used (Override handle) = handle < used.overrides_used.bound
HasSpace used (GlobalVariable handle) = handle < used.global_variables_used.bound
HasSpace used (GlobalExpression handle) = handle < used.global_expressions_used.bound
HasSpace used (Function handle) = handle < used.functions_used.bound
HasSpace used _ = ⊥

-- if the bounds are those of the module, there is space exactly for its elements
pub HasSpace-of : (whole : the_module.Module) (used : UsedHandles) (e : Reference) → AreBoundsOf whole used → IsElement whole e → HasSpace used e
HasSpace-of whole used («Type» handle) bounds inside = subst (λ n. handle < n) (sym bounds.types) inside
HasSpace-of whole used (Constant handle) bounds inside = subst (λ n. handle < n) (sym bounds.constants) inside
HasSpace-of whole used (Override handle) bounds inside = subst (λ n. handle < n) (sym bounds.overrides) inside
HasSpace-of whole used (GlobalVariable handle) bounds inside = subst (λ n. handle < n) (sym bounds.global_variables) inside
HasSpace-of whole used (GlobalExpression handle) bounds inside = subst (λ n. handle < n) (sym bounds.global_expressions) inside
HasSpace-of whole used (Function handle) bounds inside = subst (λ n. handle < n) (sym bounds.functions) inside
HasSpace-of whole used _ bounds inside = inside

pub IsElement-of : (whole : the_module.Module) (used : UsedHandles) (e : Reference) → AreBoundsOf whole used → HasSpace used e → IsElement whole e
IsElement-of whole used («Type» handle) bounds inside = subst (λ n. handle < n) bounds.types inside
IsElement-of whole used (Constant handle) bounds inside = subst (λ n. handle < n) bounds.constants inside
IsElement-of whole used (Override handle) bounds inside = subst (λ n. handle < n) bounds.overrides inside
IsElement-of whole used (GlobalVariable handle) bounds inside = subst (λ n. handle < n) bounds.global_variables inside
IsElement-of whole used (GlobalExpression handle) bounds inside = subst (λ n. handle < n) bounds.global_expressions inside
IsElement-of whole used (Function handle) bounds inside = subst (λ n. handle < n) bounds.functions inside
IsElement-of whole used _ bounds inside = inside

pub mark-bounds : (whole : the_module.Module) (used : UsedHandles) (e : Reference) → AreBoundsOf whole used → AreBoundsOf whole (mark used e)
mark-bounds whole used («Type» handle) bounds = record {
  types = put-bound used.types_used handle ∙ bounds.types;
  constants = bounds.constants;
  overrides = bounds.overrides;
  global_variables = bounds.global_variables;
  global_expressions = bounds.global_expressions;
  functions = bounds.functions;
}
mark-bounds whole used (Constant handle) bounds = record {
  types = bounds.types;
  constants = put-bound used.constants_used handle ∙ bounds.constants;
  overrides = bounds.overrides;
  global_variables = bounds.global_variables;
  global_expressions = bounds.global_expressions;
  functions = bounds.functions;
}
mark-bounds whole used (Override handle) bounds = record {
  types = bounds.types;
  constants = bounds.constants;
  overrides = put-bound used.overrides_used handle ∙ bounds.overrides;
  global_variables = bounds.global_variables;
  global_expressions = bounds.global_expressions;
  functions = bounds.functions;
}
mark-bounds whole used (GlobalVariable handle) bounds = record {
  types = bounds.types;
  constants = bounds.constants;
  overrides = bounds.overrides;
  global_variables = put-bound used.global_variables_used handle ∙ bounds.global_variables;
  global_expressions = bounds.global_expressions;
  functions = bounds.functions;
}
mark-bounds whole used (GlobalExpression handle) bounds = record {
  types = bounds.types;
  constants = bounds.constants;
  overrides = bounds.overrides;
  global_variables = bounds.global_variables;
  global_expressions = put-bound used.global_expressions_used handle ∙ bounds.global_expressions;
  functions = bounds.functions;
}
mark-bounds whole used (Function handle) bounds = record {
  types = bounds.types;
  constants = bounds.constants;
  overrides = bounds.overrides;
  global_variables = bounds.global_variables;
  global_expressions = bounds.global_expressions;
  functions = put-bound used.functions_used handle ∙ bounds.functions;
}
mark-bounds whole used _ bounds = bounds

-- what was marked stays marked
pub mark-old : (used : UsedHandles) (e q : Reference) → is_member used q ≡ true → is_member (mark used e) q ≡ true
mark-old used («Type» handle) («Type» other) member = put-old used.types_used handle other member
mark-old used («Type» handle) _ member = member
mark-old used (Constant handle) (Constant other) member = put-old used.constants_used handle other member
mark-old used (Constant handle) _ member = member
mark-old used (Override handle) (Override other) member = put-old used.overrides_used handle other member
mark-old used (Override handle) _ member = member
mark-old used (GlobalVariable handle) (GlobalVariable other) member = put-old used.global_variables_used handle other member
mark-old used (GlobalVariable handle) _ member = member
mark-old used (GlobalExpression handle) (GlobalExpression other) member = put-old used.global_expressions_used handle other member
mark-old used (GlobalExpression handle) _ member = member
mark-old used (Function handle) (Function other) member = put-old used.functions_used handle other member
mark-old used (Function handle) _ member = member
mark-old used _ q member = member

-- what is marked was marked before, or it is the element
pub mark-new : (used : UsedHandles) (e q : Reference) → is_member (mark used e) q ≡ true → (is_member used q ≡ true) ⊎ ((q ≡ e) × HasSpace used q)
mark-new used («Type» handle) («Type» other) member = named_alike «Type» (λ n. n < used.types_used.bound) other handle (put-new used.types_used handle other member)
mark-new used («Type» handle) _ member = inl member
mark-new used (Constant handle) (Constant other) member = named_alike Constant (λ n. n < used.constants_used.bound) other handle (put-new used.constants_used handle other member)
mark-new used (Constant handle) _ member = inl member
mark-new used (Override handle) (Override other) member = named_alike Override (λ n. n < used.overrides_used.bound) other handle (put-new used.overrides_used handle other member)
mark-new used (Override handle) _ member = inl member
mark-new used (GlobalVariable handle) (GlobalVariable other) member = named_alike GlobalVariable (λ n. n < used.global_variables_used.bound) other handle (put-new used.global_variables_used handle other member)
mark-new used (GlobalVariable handle) _ member = inl member
mark-new used (GlobalExpression handle) (GlobalExpression other) member = named_alike GlobalExpression (λ n. n < used.global_expressions_used.bound) other handle (put-new used.global_expressions_used handle other member)
mark-new used (GlobalExpression handle) _ member = inl member
mark-new used (Function handle) (Function other) member = named_alike Function (λ n. n < used.functions_used.bound) other handle (put-new used.functions_used handle other member)
mark-new used (Function handle) _ member = inl member
mark-new used _ q member = inl member

-- the element is marked if there is space for it
pub mark-has : (used : UsedHandles) (e : Reference) → HasSpace used e → is_member (mark used e) e ≡ true
mark-has used («Type» handle) inside = put-has used.types_used handle inside
mark-has used (Constant handle) inside = put-has used.constants_used handle inside
mark-has used (Override handle) inside = put-has used.overrides_used handle inside
mark-has used (GlobalVariable handle) inside = put-has used.global_variables_used handle inside
mark-has used (GlobalExpression handle) inside = put-has used.global_expressions_used handle inside
mark-has used (Function handle) inside = put-has used.functions_used handle inside
mark-has used _ inside = absurd inside

pub is_new-parts : (used : UsedHandles) (e : Reference) → is_new used e ≡ true → HasSpace used e × (is_member used e ≡ false)
is_new-parts used («Type» handle) new = new_member-parts used.types_used handle new
is_new-parts used (Constant handle) new = new_member-parts used.constants_used handle new
is_new-parts used (Override handle) new = new_member-parts used.overrides_used handle new
is_new-parts used (GlobalVariable handle) new = new_member-parts used.global_variables_used handle new
is_new-parts used (GlobalExpression handle) new = new_member-parts used.global_expressions_used handle new
is_new-parts used (Function handle) new = new_member-parts used.functions_used handle new
is_new-parts used _ new = absurd (true≢false (sym new))

pub is_new-is : (used : UsedHandles) (e : Reference) → HasSpace used e → is_member used e ≡ false → is_new used e ≡ true
is_new-is used («Type» handle) inside missing = new_member-is used.types_used handle inside missing
is_new-is used (Constant handle) inside missing = new_member-is used.constants_used handle inside missing
is_new-is used (Override handle) inside missing = new_member-is used.overrides_used handle inside missing
is_new-is used (GlobalVariable handle) inside missing = new_member-is used.global_variables_used handle inside missing
is_new-is used (GlobalExpression handle) inside missing = new_member-is used.global_expressions_used handle inside missing
is_new-is used (Function handle) inside missing = new_member-is used.functions_used handle inside missing
is_new-is used _ inside missing = absurd inside

-- one element less is unmarked if the element is new
pub unmarked-mark : (used : UsedHandles) (e : Reference) → unmarked used ≡ unmarked (mark used e) + (if is_new used e then 1 else 0)
unfolding unmarked
unmarked-mark used («Type» handle) = omega (arith, absent-put used.types_used handle)
unmarked-mark used (Constant handle) = omega (arith, absent-put used.constants_used handle)
unmarked-mark used (Override handle) = omega (arith, absent-put used.overrides_used handle)
unmarked-mark used (GlobalVariable handle) = omega (arith, absent-put used.global_variables_used handle)
unmarked-mark used (GlobalExpression handle) = omega (arith, absent-put used.global_expressions_used handle)
unmarked-mark used (Function handle) = omega (arith, absent-put used.functions_used handle)
unmarked-mark used _ = omega arith

pub unmarked-mark_new : (used : UsedHandles) (e : Reference) → is_new used e ≡ true → unmarked used ≡ unmarked (mark used e) + 1
unmarked-mark_new used e is = unmarked-mark used e ∙ ap (λ b. unmarked (mark used e) + (if b then 1 else 0)) is

pub unmarked-mark_again : (used : UsedHandles) (e : Reference) → is_new used e ≡ false → unmarked used ≡ unmarked (mark used e)
unmarked-mark_again used e is =
    let same : unmarked used ≡ unmarked (mark used e) + 0 = unmarked-mark used e ∙ ap (λ b. unmarked (mark used e) + (if b then 1 else 0)) is in
    omega (arith, same)

-- in empty sets, not more elements are unmarked than the module has
pub unmarked-nothing : (whole : the_module.Module) → unmarked (nothing_used whole) ≤ length whole.types + length whole.constants + length whole.overrides + length whole.global_variables + length whole.global_expressions + length whole.functions
unfolding unmarked
unmarked-nothing whole =
    omega (arith, absent-none (length whole.types), absent-none (length whole.constants), absent-none (length whole.overrides), absent-none (length whole.global_variables), absent-none (length whole.global_expressions), absent-none (length whole.functions))
