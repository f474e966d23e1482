-- The elements of a module that are used, and visiting them from the roots on.
use Rattle.std.proofs.Common.{◌≡◌, ◌∙◌, sym, ap, subst, refl, inl, inr, ◌⊎◌, ℕ, zero, suc, ◌<◌, List, [], ◌∷◌, ◌++◌, length, map, Bool, true, false, Option, None, arith, true≢false}
use Rattle.std.proofs.lemmas.Bool.{cases_lt}
use Rattle.std.proofs.lemmas.List.{length-map}
use Rattle.std.proofs.lemmas.List.Elements.{Contains-append_left, Contains-push, Contains-push_cases}
use Rattle.std.proofs.lemmas.Option.{slice_get_past}
use Rattle.std.specs.FinSet.{contains-empty}
use Rattle.std.specs.List.{Contains}
use Rattle.std.specs.Ordering.{nat_cmp}
use Rattle.naga_arena.specs.Arena.{value_at, values}
use Rattle.naga_arena.specs.declared.span.Span.{Span}
use Rattle.naga_ir.specs.declared.module.Module as the_module
use Rattle.naga_valid.specs.Declarations.{references_of_constant, references_of_global_variable, references_of_override, references_of_type}
use Rattle.naga_valid.specs.Expressions.{references_of_expression}
use Rattle.naga_valid.specs.Places.{references_found}
use Rattle.naga_valid.specs.declared.reference.Reference.{Reference}
use Rattle.naga_valid.specs.declared.reference.Reference.TheVariants.{«Type», Constant, Override, GlobalVariable, GlobalExpression, Function}
use Rattle.naga_compact.specs.Module.References.{IsElement, as_global, references_of_element, references_of_function}
use Rattle.naga_compact.specs.Module.Used.{AreBoundsOf, AreUsed, IsUsed, RefersTo, is_member, nothing_used, roots}
use Rattle.naga_compact.specs.Module.Visits.{Visited, visit, visits}
use Rattle.naga_compact.specs.Reachability.{from_root, by_step}
use Rattle.naga_compact.specs.declared.module.roots.KeepUnused.{KeepUnused}
use Rattle.naga_compact.specs.declared.module.used.UsedHandles.{UsedHandles}
use Rattle.naga_compact.proofs.MarkedElementLemmas.{HasSpace-of, IsElement-of}
use Rattle.naga_compact.proofs.VisitsLemmas.{visit-bounds, visit-has, visit-new, visit-old, visit-pending, visit-pending_new}

Contains-none : {X : Type 0} (x : X) → ¬ Contains [] x
Contains-none x inside = absurd (omega (arith, inside.1))

Contains-cons_cases : {X : Type 0} (first : X) (rest : List X) (x : X) → Contains (first ∷ rest) x → (first ≡ x) ⊎ Contains rest x
Contains-cons_cases first rest x (zero, within, is) = inl is
Contains-cons_cases first rest x (suc k, within, is) = inr (k, omega arith, is)

-- ---- elements that refer to others

-- something is found only below the length of the arena
found_within : {X : Type 0} (references : Option X → List Reference) (arena : List (X × Span)) (h : ℕ) (other : Reference) → references None ≡ [] → Contains (references (value_at arena h)) other → h < length arena
found_within references arena h other none inside = elim (cases_lt h (length arena)) [
  | inl lt ↦ lt
  | inr ge ↦
      let missing : value_at arena h ≡ None = slice_get_past (values arena) h (omega (arith, length-map arena (λ p. p.0))) in
      absurd (Contains-none other (subst (λ xs. Contains xs other) (ap references missing ∙ none) inside))
]

-- only an element of the module refers to others
IsElement-refers : (whole : the_module.Module) (e other : Reference) → RefersTo whole e other → IsElement whole e
IsElement-refers whole («Type» h) other inside = found_within (references_found references_of_type) whole.types h other refl inside
IsElement-refers whole (Constant h) other inside = found_within (references_found references_of_constant) whole.constants h other refl inside
IsElement-refers whole (Override h) other inside = found_within (references_found references_of_override) whole.overrides h other refl inside
IsElement-refers whole (GlobalVariable h) other inside = found_within (references_found references_of_global_variable) whole.global_variables h other refl inside
IsElement-refers whole (GlobalExpression h) other inside = found_within (λ found. map as_global (references_found references_of_expression found)) whole.global_expressions h other refl inside
IsElement-refers whole (Function h) other inside = found_within (references_found references_of_function) whole.functions h other refl inside
IsElement-refers whole _ other inside = absurd (Contains-none other inside)

-- ---- visiting a list of elements of a module

-- `w` is `v` after the elements of the list were visited
record VisitsFrom (whole : the_module.Module) (v w : Visited) (references : List Reference) : Type 0 where
  bounds : AreBoundsOf whole w.used
  old : (q : Reference) → is_member v.used q ≡ true → is_member w.used q ≡ true
  has : (q : Reference) → Contains references q → IsElement whole q → is_member w.used q ≡ true
  new : (q : Reference) → is_member w.used q ≡ true → (is_member v.used q ≡ true) ⊎ (Contains references q × IsElement whole q × Contains w.pending q)
  pending : (q : Reference) → Contains v.pending q → Contains w.pending q
  pending_new : (q : Reference) → Contains w.pending q → Contains v.pending q ⊎ (is_member w.used q ≡ true)

VisitsFrom-visits : (whole : the_module.Module) (v : Visited) (references : List Reference) → AreBoundsOf whole v.used → VisitsFrom whole v (visits v references) references
VisitsFrom-visits whole v [] bounds = record {
  bounds = bounds;
  old = λ q member. member;
  has = λ q inside. absurd (Contains-none q inside);
  new = λ q member. inl member;
  pending = λ q inside. inside;
  pending_new = λ q inside. inl inside;
}
VisitsFrom-visits whole v (e ∷ references) bounds =
    let after : VisitsFrom whole (visit v e) (visits (visit v e) references) references = VisitsFrom-visits whole (visit v e) references (visit-bounds v e whole bounds) in record {
      bounds = after.bounds;
      old = λ q member. after.old q (visit-old v e q member);
      has = λ q inside element. elim (Contains-cons_cases e references q inside) [
        | inl same ↦
            let here = visit-has v e (HasSpace-of whole v.used e bounds (subst (IsElement whole) (sym same) element)) in
            subst (λ x. is_member (visits (visit v e) references).used x ≡ true) same (after.old e here)
        | inr later ↦ after.has q later element
      ];
      new = λ q member. elim (after.new q member) [
        | inl now ↦ elim (visit-new v e q now) [
          | inl old ↦ inl old
          | inr new ↦ inr ((zero, omega arith, sym new.0), IsElement-of whole v.used q bounds new.1, after.pending q new.2)
        ]
        | inr new ↦ inr ((suc new.0.0, omega (arith, new.0.1), new.0.2), new.1, new.2)
      ];
      pending = λ q inside. after.pending q (visit-pending v e q inside);
      pending_new = λ q inside. elim (after.pending_new q inside) [
        | inl now ↦ elim (visit-pending_new v e q now) [
          | inl old ↦ inl old
          | inr member ↦ inr (after.old q member)
        ]
        | inr member ↦ inr member
      ];
    }

-- ---- visiting from the roots on

-- What is marked is used. The roots are marked, and so is everything to which the marked elements refer, except for
-- those that are pending.
pub record IsTraced (whole : the_module.Module) (from : List Reference) (v : Visited) : Type 0 where
  pub bounds : AreBoundsOf whole v.used
  pub roots : (q : Reference) → Contains from q → IsElement whole q → is_member v.used q ≡ true
  pub used : (q : Reference) → is_member v.used q ≡ true → IsElement whole q × IsUsed whole from q
  pub pending : (q : Reference) → Contains v.pending q → is_member v.used q ≡ true
  pub closed : (q : Reference) → is_member v.used q ≡ true → Contains v.pending q ⊎ ((other : Reference) → RefersTo whole q other → IsElement whole other → is_member v.used other ≡ true)

is_member-nothing : (whole : the_module.Module) (q : Reference) → is_member (nothing_used whole) q ≡ false
is_member-nothing whole («Type» h) = contains-empty nat_cmp h
is_member-nothing whole (Constant h) = contains-empty nat_cmp h
is_member-nothing whole (Override h) = contains-empty nat_cmp h
is_member-nothing whole (GlobalVariable h) = contains-empty nat_cmp h
is_member-nothing whole (GlobalExpression h) = contains-empty nat_cmp h
is_member-nothing whole (Function h) = contains-empty nat_cmp h
is_member-nothing whole _ = refl

abbrev pub nothing_visited : the_module.Module → Visited
nothing_visited whole = record { used = nothing_used whole; pending = [] }

bounds-nothing : (whole : the_module.Module) → AreBoundsOf whole (nothing_used whole)
bounds-nothing whole = record {
  types = refl;
  constants = refl;
  overrides = refl;
  global_variables = refl;
  global_expressions = refl;
  functions = refl;
}

-- the roots are visited
pub IsTraced-start : (whole : the_module.Module) (from : List Reference) → IsTraced whole from (visits (nothing_visited whole) from)
IsTraced-start whole from =
    let to : VisitsFrom whole (nothing_visited whole) (visits (nothing_visited whole) from) from = VisitsFrom-visits whole (nothing_visited whole) from (bounds-nothing whole) in
    let none : (q : Reference) → ¬ (is_member (nothing_used whole) q ≡ true) = λ q member. true≢false (sym member ∙ is_member-nothing whole q) in record {
      bounds = to.bounds;
      roots = to.has;
      used = λ q member. elim (to.new q member) [
        | inl old ↦ absurd (none q old)
        | inr new ↦ (new.1, from_root new.0)
      ];
      pending = λ q inside. elim (to.pending_new q inside) [
        | inl old ↦ absurd (Contains-none q old)
        | inr member ↦ member
      ];
      closed = λ q member. elim (to.new q member) [
        | inl old ↦ absurd (none q old)
        | inr new ↦ inl new.2
      ];
    }

-- the last pending element is taken, and everything to which it refers is visited
step : (whole : the_module.Module) (from : List Reference) (v : Visited) (e : Reference) → IsTraced whole from (record v { pending = v.pending ++ e ∷ [] }) → IsTraced whole from (visits v (references_of_element whole e))
step whole from v e so =
    let to : VisitsFrom whole v (visits v (references_of_element whole e)) (references_of_element whole e) = VisitsFrom-visits whole v (references_of_element whole e) so.bounds in
    let used : IsUsed whole from e = (so.used e (so.pending e (Contains-push v.pending e))).1 in record {
      bounds = to.bounds;
      roots = λ q inside element. to.old q (so.roots q inside element);
      used = λ q member. elim (to.new q member) [
        | inl old ↦ so.used q old
        | inr new ↦ (new.1, by_step used new.0)
      ];
      pending = λ q inside. elim (to.pending_new q inside) [
        | inl old ↦ to.old q (so.pending q (Contains-append_left v.pending (e ∷ []) q old))
        | inr member ↦ member
      ];
      closed = λ q member. elim (to.new q member) [
        | inl old ↦ elim (so.closed q old) [
          | inl waiting ↦ elim (Contains-push_cases v.pending e q waiting) [
            | inl before ↦ inl (to.pending q before)
            | inr same ↦ inr (λ other refers element. to.has other (subst (λ x. RefersTo whole x other) (sym same) refers) element)
          ]
          | inr done ↦ inr (λ other refers element. to.old other (done other refers element))
        ]
        | inr new ↦ inl new.2
      ];
    }

pub IsTraced-step : (whole : the_module.Module) (from : List Reference) (m v w : Visited) (e : Reference) → IsTraced whole from m → v.used ≡ m.used → m.pending ≡ v.pending ++ e ∷ [] → w ≡ visits v (references_of_element whole e) → IsTraced whole from w
IsTraced-step whole from m v w e so used pending is =
    let before : m ≡ record v { pending = v.pending ++ e ∷ [] } = (λ i. record { used = sym used i; pending = pending i }) in
    subst (IsTraced whole from) (sym is) (step whole from v e (subst (IsTraced whole from) before so))

-- nothing is pending
all_marked : (whole : the_module.Module) (from : List Reference) (v : Visited) → IsTraced whole from v → v.pending ≡ [] → (q : Reference) → IsUsed whole from q → IsElement whole q → is_member v.used q ≡ true
all_marked whole from v so none q (from_root root) element = so.roots q root element
all_marked whole from v so none q (by_step {node = g} way refers) element =
    elim (so.closed g (all_marked whole from v so none g way (IsElement-refers whole g q refers))) [
      | inl waiting ↦ absurd (Contains-none g (subst (λ xs. Contains xs g) none waiting))
      | inr done ↦ done q refers element
    ]

pub IsTraced-end : (whole : the_module.Module) (keep_unused : KeepUnused) (v : Visited) → IsTraced whole (roots whole keep_unused) v → v.pending ≡ [] → AreUsed whole keep_unused v.used
IsTraced-end whole keep_unused v so none = record {
  bounds = so.bounds;
  members = λ q. (
    so.used q,
    λ h. all_marked whole (roots whole keep_unused) v so none q h.1 h.0,
  );
}

-- ---- the elements that are used

module _ (whole : the_module.Module) (keep_unused : KeepUnused) (used : UsedHandles) where
  pub AreUsed-root : (e : Reference) → AreUsed whole keep_unused used → Contains (roots whole keep_unused) e → IsElement whole e → is_member used e ≡ true
  AreUsed-root e so root element = (so.members e).1 (element, from_root root)

  pub AreUsed-refers : (e other : Reference) → AreUsed whole keep_unused used → is_member used e ≡ true → RefersTo whole e other → IsElement whole other → is_member used other ≡ true
  AreUsed-refers e other so member refers element = (so.members other).1 (element, by_step ((so.members e).0 member).1 refers)

  module _ (passes : Reference → Bool) where
    reached_passes : ((root : Reference) → Contains (roots whole keep_unused) root → passes root ≡ true) → ((e other : Reference) → passes e ≡ true → RefersTo whole e other → passes other ≡ true) → (q : Reference) → IsUsed whole (roots whole keep_unused) q → passes q ≡ true
    reached_passes roots_pass more q (from_root root) = roots_pass q root
    reached_passes roots_pass more q (by_step {node = g} way refers) = more g q (reached_passes roots_pass more g way) refers

    pub AreUsed-fewest : AreUsed whole keep_unused used → ((root : Reference) → Contains (roots whole keep_unused) root → passes root ≡ true) → ((e other : Reference) → passes e ≡ true → RefersTo whole e other → passes other ≡ true) → (q : Reference) → is_member used q ≡ true → passes q ≡ true
    AreUsed-fewest so roots_pass more q member = reached_passes roots_pass more q ((so.members q).0 member).1
