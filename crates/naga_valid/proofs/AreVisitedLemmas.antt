-- What visitors do with lists of references.
use Rattle.std.proofs.Common.{add-one, drop, get_or, map, Option, Some, None, ◌≡◌, ◌∙◌, sym, ap, subst, refl, arith, inl, inr, ℕ, ◌+◌, ◌<◌, ◌≤◌, List, [], ◌∷◌, ◌++◌, length}
use Rattle.std.specs.declared.ops.ControlFlow.{ControlFlow}
use Rattle.std.specs.declared.ops.ControlFlow.TheVariants.{Break, Continue}
use Rattle.std.proofs.Math.Seq.{drop-cons}
use Rattle.std.specs.Option.{option_map}
use Rattle.std.specs.Prelude.{option_to_list}
use Rattle.std.specs.ControlFlow.{MatchControlFlow}
use Rattle.naga_valid.specs.Places.{global_overrides}
use Rattle.naga_valid.specs.Reference.{present_then}
use Rattle.naga_valid.specs.Visits.{AreVisited, Step}
use Rattle.naga_valid.specs.declared.reference.Reference.{Reference}
use Rattle.naga_valid.specs.declared.reference.Reference.TheVariants as reference

abbrev goes_on : {Stop : Type 0} → ControlFlow Stop (Unit {0})
goes_on {Stop} = Continue tt

continue≢break : {Stop : Type 0} (stop : Stop) → goes_on {Stop = Stop} ≡ Break stop → ⊥
continue≢break stop same = subst (λ answer. MatchControlFlow answer (λ _. Unit {0}) (λ _. ⊥)) same (tt {0})

module _ {Stop State : Type 0} (step : Step Stop State) where
  -- the visitor goes on after the first reference
  pub AreVisited-next : (old next : State) (to : Reference) (others : List Reference) (answer : ControlFlow Stop (Unit {0})) (new : State) → step old to (Continue tt) next → AreVisited step next others answer new → AreVisited step old (to ∷ others) answer new
  AreVisited-next old next to others answer new first rest = inr (next, first, rest)

  -- the visitor stops at the first reference
  pub AreVisited-stop : (old : State) (to : Reference) (others : List Reference) (stop : Stop) (new : State) → step old to (Break stop) new → AreVisited step old (to ∷ others) (Break stop) new
  AreVisited-stop old to others stop new first = inl (stop, refl, first)

  -- the visitor goes on after a list
  pub AreVisited-append : (old next : State) (xs ys : List Reference) (answer : ControlFlow Stop (Unit {0})) (new : State) → AreVisited step old xs (Continue tt) next → AreVisited step next ys answer new → AreVisited step old (xs ++ ys) answer new
  AreVisited-append old next [] ys answer new first rest = subst (λ s. AreVisited step s ys answer new) first.1 rest
  AreVisited-append old next (x ∷ xs) ys answer new (inl stopped) rest = absurd (continue≢break stopped.0 stopped.1)
  AreVisited-append old next (x ∷ xs) ys answer new (inr on) rest =
      inr (on.0, on.1, AreVisited-append on.0 next xs ys answer new on.2 rest)

  -- the visitor stops in a list
  pub AreVisited-stops : (old : State) (xs ys : List Reference) (stop : Stop) (new : State) → AreVisited step old xs (Break stop) new → AreVisited step old (xs ++ ys) (Break stop) new
  AreVisited-stops old [] ys stop new visited = absurd (continue≢break stop (sym visited.0))
  AreVisited-stops old (x ∷ xs) ys stop new (inl stopped) = inl stopped
  AreVisited-stops old (x ∷ xs) ys stop new (inr on) = inr (on.0, on.1, AreVisited-stops on.0 xs ys stop new on.2)

-- ---- loops

module _ {Stop State : Type 0} (step : Step Stop State) where
  -- what the visitor does with the rest is what it does with the whole
  abbrev pub Resumes : State → List Reference → State → List Reference → Type 0
  Resumes old whole now rest =
      (answer : ControlFlow Stop (Unit {0})) (new : State) → AreVisited step now rest answer new → AreVisited step old whole answer new

  pub Resumes-itself : (old : State) (whole : List Reference) → Resumes old whole old whole
  Resumes-itself old whole answer new visited = visited

  -- the visitor went on after the first references of the rest
  pub Resumes-next : (old now next : State) (whole rest first others : List Reference) → Resumes old whole now rest → rest ≡ first ++ others → AreVisited step now first (Continue tt) next → Resumes old whole next others
  Resumes-next old now next whole rest first others resumes is on answer new visited =
      resumes answer new (subst (λ list. AreVisited step now list answer new) (sym is) (AreVisited-append step now next first others answer new on visited))

  -- the visitor stopped in the first references of the rest
  pub Resumes-stop : (old now new : State) (whole rest first others : List Reference) (stop : Stop) → Resumes old whole now rest → rest ≡ first ++ others → AreVisited step now first (Break stop) new → AreVisited step old whole (Break stop) new
  Resumes-stop old now new whole rest first others stop resumes is stopped =
      resumes (Break stop) new (subst (λ list. AreVisited step now list (Break stop) new) (sym is) (AreVisited-stops step now first others stop new stopped))

  -- nothing is left
  pub Resumes-end : (old now : State) (whole rest : List Reference) → Resumes old whole now rest → rest ≡ [] → AreVisited step old whole (Continue tt) now
  Resumes-end old now whole rest resumes is =
      resumes (Continue tt) now (subst (λ list. AreVisited step now list (Continue tt) now) (sym is) (refl, refl))

-- ---- the rest of a list

module _ {X : Type 0} (xs : List X) (i : ℕ) (x : X) (within : i < length xs) (is : x ≡ get_or xs i x) where
  drop-item : drop i xs ≡ x ∷ drop (i + 1) xs
  drop-item =
      drop-cons xs i x within
      ∙ ap (λ n. get_or xs i x ∷ drop n xs) (sym (add-one i))
      ∙ ap (λ y. y ∷ drop (i + 1) xs) (sym is)

  pub map-rest : (f : X → Reference) (to : Reference) → to ≡ f x → map f (drop i xs) ≡ (to ∷ []) ++ map f (drop (i + 1) xs)
  map-rest f to refers = ap (map f) drop-item ∙ ap (λ y. y ∷ map f (drop (i + 1) xs)) (sym refers)

pub present-rest : {X : Type 0} (f : X → Reference) (xs : List (Option X)) (i : ℕ) (x : Option X) → i < length xs → x ≡ get_or xs i x → present_then (map (option_map f) (drop i xs)) [] ≡ option_to_list (option_map f x) ++ present_then (map (option_map f) (drop (i + 1) xs)) []
present-rest f xs i x within is = ap (λ ys. present_then (map (option_map f) ys) []) (drop-item xs i x within is)

pub length-present : {X : Type 0} (f : X → Reference) (xs : List (Option X)) → length (present_then (map (option_map f) xs) []) ≤ length xs
length-present f [] = omega arith
length-present f (None ∷ xs) = omega (arith, length-present f xs)
length-present f (Some x ∷ xs) = omega (arith, length-present f xs)

pub length-optional : (to : Option Reference) → length (option_to_list to) ≤ 1
length-optional None = omega arith
length-optional (Some to) = omega arith

pub global_overrides-rest : (xs : List (Option ℕ)) (i : ℕ) (x : Option ℕ) → i < length xs → x ≡ get_or xs i x → global_overrides (drop i xs) ≡ option_to_list (option_map reference.GlobalExpression x) ++ global_overrides (drop (i + 1) xs)
global_overrides-rest xs i x within is = ap global_overrides (drop-item xs i x within is)

pub length-global_overrides : (xs : List (Option ℕ)) → length (global_overrides xs) ≤ length xs
length-global_overrides [] = omega arith
length-global_overrides (None ∷ xs) = omega (arith, length-global_overrides xs)
length-global_overrides (Some x ∷ xs) = omega (arith, length-global_overrides xs)
