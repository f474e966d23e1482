-- What a use of each expression reads, by what uses of those before it read.
use Rattle.std.proofs.Common.{◌≡◌, ◌∙◌, ◌<◌, ◌≤◌, ◌+◌, ◌⊎◌, ℕ, suc, Bool, true, false, inl, inr, List, [], ◌∷◌, ◌++◌, Option, Some, None, length, length-append, refl, sym, ap, subst, arith, option_to_list}
use Rattle.std.proofs.lemmas.Bool.Decides.{nat_tests}
use Rattle.std.proofs.lemmas.List.{get_or_append_left, get_or_at, get_or_past, length-map}
use Rattle.std.proofs.lemmas.List.Elements.{All-cons, All-head, All-nil, All-tail}
use Rattle.std.proofs.lemmas.Option.{slice_get_past}
use Rattle.std.specs.Prelude.{⊤, if◌then◌else◌, nat_lt, option_and_then}
use Rattle.naga_arena.specs.Arena.{value_at, values}
use Rattle.naga_arena.specs.declared.span.Span.{Span}
use Rattle.naga_ir.specs.Expression.{base_of}
use Rattle.naga_ir.specs.declared.expression.Expression.{Expression}
use Rattle.naga_flow.specs.Chains.{AreChains, AreLinks, EndsReady, IsLink, IsPlace, indices_from, link_at, unready}
use Rattle.naga_flow.specs.Places.{base_before, end_of_chain, if_before, index_of, indices_of_chain, reads_in, ready_in}
use Rattle.naga_flow.specs.Tracking.{FindsFirstNot, IsFirstNot}
use Rattle.naga_flow.specs.Uses.{IsKnown, expressions_in}
use Rattle.naga_flow.specs.declared.chains.Indexed.{Indexed}
use Rattle.naga_flow.specs.declared.chains.Link.{Link}
use Rattle.naga_flow.specs.declared.chains.Link.TheVariants.{Value, Place}
use Rattle.naga_flow.proofs.IsFirstNotLemmas.{IsFirstNot-after, IsFirstNot-cases, IsFirstNot-here}
use Rattle.naga_flow.proofs.PlacesLemmas.{base_before-less, end-last, end-next, indices-last, indices-next}
use Rattle.naga_flow.proofs.ReadsLemmas.{ready-evaluation}

-- no more accesses than this are ahead
abbrev pub indices_ahead : Option Indexed → ℕ
indices_ahead None = 0
indices_ahead (Some first) = suc first.base

-- the chain goes on to a ready expression
abbrev pub EachEndsReady : List (Expression × Span) → Option Indexed → Type 0
EachEndsReady arena None = ⊤
EachEndsReady arena (Some first) = EndsReady arena first.base

module _ (arena : List (Expression × Span)) where
  -- ---- what is ready is passed over

  unready-ready : (handle : ℕ) (rest : List ℕ) → ready_in (value_at arena handle) ≡ true → unready arena (handle ∷ rest) ≡ unready arena rest
  unready-ready handle rest h = ap (λ t. if t then unready arena rest else handle ∷ unready arena rest) h

  unready-other : (handle : ℕ) (rest : List ℕ) → ready_in (value_at arena handle) ≡ false → unready arena (handle ∷ rest) ≡ handle ∷ unready arena rest
  unready-other handle rest h = ap (λ t. if t then unready arena rest else handle ∷ unready arena rest) h

  module _ (known : List ℕ) where
    abbrev P : ℕ → Type 0
    P = IsKnown (expressions_in arena) known

    -- the first one without a value among those that are not ready is the first one of all
    pub unready-finds : (xs : List ℕ) (result : Option ℕ) → FindsFirstNot P (unready arena xs) result → FindsFirstNot P xs result
    unready-finds [] result h = h
    unready-finds (x ∷ xs) result h = by_test (ready_in (value_at arena x)) refl result h (unready-finds xs)
      where
        passed : (result : Option ℕ) → P x → FindsFirstNot P xs result → FindsFirstNot P (x ∷ xs) result
        passed None here later = All-cons P x xs here later
        passed (Some found) here later = IsFirstNot-after P (x ∷ []) xs found (All-cons P x [] here (All-nil P)) later

        stops : (result : Option ℕ) → FindsFirstNot P (x ∷ unready arena xs) result → ((result : Option ℕ) → FindsFirstNot P (unready arena xs) result → FindsFirstNot P xs result) → FindsFirstNot P (x ∷ xs) result
        stops None h later = All-cons P x xs (All-head P x (unready arena xs) h) (later None (All-tail P x (unready arena xs) h))
        stops (Some found) h later = split (IsFirstNot-cases P x (unready arena xs) found h)
          where
            split : ((x ≡ found) × ¬ P found) ⊎ (P x × IsFirstNot P (unready arena xs) found) → IsFirstNot P (x ∷ xs) found
            split (inl (same, fails)) = subst (λ y. IsFirstNot P (y ∷ xs) found) (sym same) (IsFirstNot-here P found xs fails)
            split (inr (here, rest)) = passed (Some found) here (later (Some found) rest)

        by_test : (t : Bool) → ready_in (value_at arena x) ≡ t → (result : Option ℕ) → FindsFirstNot P (if t then unready arena xs else x ∷ unready arena xs) result →
            ((result : Option ℕ) → FindsFirstNot P (unready arena xs) result → FindsFirstNot P xs result) → FindsFirstNot P (x ∷ xs) result
        by_test true ready result h later = passed result (inl (ready-evaluation (value_at arena x) ready)) (later result h)
        by_test false ready result h later = stops result h later

  -- ---- links

  reads_in-place : (handle : ℕ) → EndsReady arena handle → reads_in arena handle ≡ indices_of_chain arena handle handle
  reads_in-place handle h = ap (λ is_place. if is_place then indices_of_chain arena handle handle else handle ∷ []) h

  pub IsPlace-indices : (handle : ℕ) (first : Option Indexed) → IsPlace arena handle first → unready arena (indices_of_chain arena handle handle) ≡ indices_from arena first
  IsPlace-indices handle None h = h
  IsPlace-indices handle (Some first) h = h.indices

  -- what is found of the indices that are not ready is found of a use of the place
  pub place-finds : (known : List ℕ) (handle : ℕ) (first : Option Indexed) (result : Option ℕ) → EndsReady arena handle → IsPlace arena handle first →
      FindsFirstNot (IsKnown (expressions_in arena) known) (indices_from arena first) result → FindsFirstNot (IsKnown (expressions_in arena) known) (reads_in arena handle) result
  place-finds known handle first result ends place h =
      subst (λ xs. FindsFirstNot (IsKnown (expressions_in arena) known) xs result) (sym (reads_in-place handle ends))
      (unready-finds known (indices_of_chain arena handle handle) result
      (subst (λ xs. FindsFirstNot (IsKnown (expressions_in arena) known) xs result) (sym (IsPlace-indices handle first place)) h))

  pub IsPlace-ends : (handle : ℕ) (first : Option Indexed) → IsPlace arena handle first → EachEndsReady arena first
  IsPlace-ends handle None h = tt
  IsPlace-ends handle (Some first) h = h.ends

  -- the chain goes on at an access before
  pub IsPlace-ahead : (handle : ℕ) (first : Option Indexed) → IsPlace arena handle first → indices_ahead first < suc handle
  IsPlace-ahead handle None h = omega arith
  IsPlace-ahead handle (Some first) h = let before = h.before in omega (arith, before)

  -- ---- what is no access

  pub IsLink-ready : (handle : ℕ) → base_before arena handle ≡ None → ready_in (value_at arena handle) ≡ true → IsLink arena handle (Place None)
  IsLink-ready handle last ready =
      (ap (λ end. ready_in (value_at arena end)) (end-last arena handle last) ∙ ready, ap (unready arena) (indices-last arena handle last))

  pub IsLink-other : (handle : ℕ) → base_before arena handle ≡ None → ready_in (value_at arena handle) ≡ false → IsLink arena handle Value
  IsLink-other handle last other = ap (λ end. ready_in (value_at arena end)) (end-last arena handle last) ∙ other

  -- ---- accesses

  module _ (handle base : ℕ) (is : base_before arena handle ≡ Some base) where
    same_end : ready_in (value_at arena (end_of_chain arena handle handle)) ≡ ready_in (value_at arena (end_of_chain arena base base))
    same_end = ap (λ end. ready_in (value_at arena end)) (end-next arena handle base is)

    pub IsLink-value : IsLink arena base Value → IsLink arena handle Value
    IsLink-value h = same_end ∙ h

    pub EndsReady-next : EndsReady arena base → EndsReady arena handle
    EndsReady-next h = same_end ∙ h

    -- the access has no index that is not ready
    passed_over : unready arena (indices_of_chain arena handle handle) ≡ unready arena (indices_of_chain arena base base) → (first : Option Indexed) → IsPlace arena base first → IsPlace arena handle first
    passed_over same None h = same ∙ h
    passed_over same (Some first) h = record {
      before = let less = base_before-less arena handle base is in let later = h.before in omega (arith, less, later);
      ends = h.ends;
      indices = same ∙ h.indices;
    }

    pub IsPlace-constant : option_and_then index_of (value_at arena handle) ≡ None → (first : Option Indexed) → IsPlace arena base first → IsPlace arena handle first
    IsPlace-constant none first h =
        passed_over (ap (unready arena) (indices-next arena handle base is ∙ ap (λ index. option_to_list index ++ indices_of_chain arena base base) none)) first h

    module _ (index : ℕ) (index_is : option_and_then index_of (value_at arena handle) ≡ Some index) where
      all : unready arena (indices_of_chain arena handle handle) ≡ unready arena (index ∷ indices_of_chain arena base base)
      all = ap (unready arena) (indices-next arena handle base is ∙ ap (λ index. option_to_list index ++ indices_of_chain arena base base) index_is)

      pub IsPlace-ready : ready_in (value_at arena index) ≡ true → (first : Option Indexed) → IsPlace arena base first → IsPlace arena handle first
      IsPlace-ready ready first h = passed_over (all ∙ unready-ready index (indices_of_chain arena base base) ready) first h

      pub IsPlace-index : ready_in (value_at arena index) ≡ false → EndsReady arena base → IsPlace arena handle (Some (record { index = index; base = base }))
      IsPlace-index ready ends = record {
        before = base_before-less arena handle base is;
        ends = ends;
        indices = all ∙ unready-other index (indices_of_chain arena base base) ready;
      }

  -- ---- lists of links

  pub AreLinks-base : (links : List Link) (handle base : ℕ) → AreLinks arena links → handle ≤ length links → base_before arena handle ≡ Some base → (link : Link) → link ≡ link_at links base → IsLink arena base link
  AreLinks-base links handle base so within is link link_is =
      let less = base_before-less arena handle base is in
      subst (IsLink arena base) (sym link_is) (so.each base (omega (arith, less, within)))

  pub AreLinks-none : (links : List Link) → links ≡ [] → AreLinks arena links
  AreLinks-none links is = record { each = λ handle within. absurd (let e = ap length is in omega (arith, e, within)) }

  at_position : (links : List Link) (last : Link) → AreLinks arena links → IsLink arena (length links) last → (x : ℕ) → x < length (links ++ last ∷ []) → (t : Bool) → nat_lt x (length links) ≡ t →
      IsLink arena x (link_at (links ++ last ∷ []) x)
  at_position links last so here x within true test =
      let less : x < length links = grind (arith, nat_tests) in
      subst (IsLink arena x) (sym (get_or_append_left links (last ∷ []) Value x less)) (so.each x less)
  at_position links last so here x within false test =
      let past : length links ≤ x = grind (arith, nat_tests) in
      let more : length (links ++ last ∷ []) ≡ length links + 1 = length-append links (last ∷ []) in
      let same : x ≡ length links = omega (arith, past, within, more) in
      let at : link_at (links ++ last ∷ []) x ≡ last = get_or_at links last [] Value x (sym same) in
      subst (IsLink arena x) (sym at) (subst (λ y. IsLink arena y last) (sym same) here)

  pub AreLinks-push : (links longer : List Link) (last : Link) (handle : ℕ) → AreLinks arena links → handle ≡ length links → IsLink arena handle last → longer ≡ links ++ last ∷ [] → AreLinks arena longer
  AreLinks-push links longer last handle so handle_is here pushed =
      subst (AreLinks arena) (sym pushed)
      (record { each = λ x within. at_position links last so (subst (λ y. IsLink arena y last) handle_is here) x within (nat_lt x (length links)) refl })

  pub AreChains-all : (links : List Link) → AreLinks arena links → length arena ≤ length links → AreChains arena links
  AreChains-all links so all = record {
    are_links = so;
    all = λ handle past.
        let len : length (values arena) ≡ length arena = length-map arena (λ p. p.0) in
        slice_get_past (values arena) handle (omega (arith, len, all, past));
  }

  pub AreChains-link : (links : List Link) → AreChains arena links → (handle : ℕ) (link : Link) → link ≡ link_at links handle → IsLink arena handle link
  AreChains-link links so handle link is = subst (IsLink arena handle) (sym is) (by_test (nat_lt handle (length links)) refl)
    where
      by_test : (t : Bool) → nat_lt handle (length links) ≡ t → IsLink arena handle (link_at links handle)
      by_test true test = so.are_links.each handle (grind (arith, nat_tests))
      by_test false test =
          let past : length links ≤ handle = grind (arith, nat_tests) in
          let none : value_at arena handle ≡ None = so.all handle past in
          let last : base_before arena handle ≡ None = ap (λ found. if_before handle (option_and_then base_of found)) none in
          subst (IsLink arena handle) (sym (get_or_past links handle Value past))
          (ap (λ end. ready_in (value_at arena end)) (end-last arena handle last) ∙ ap ready_in none)
