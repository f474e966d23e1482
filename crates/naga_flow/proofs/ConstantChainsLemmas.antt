-- The chains among the first expressions, when one more is looked at.
use Rattle.std.proofs.Common.{◌≡◌, ◌∙◌, ◌<◌, ◌≤◌, ◌+◌, sym, ap, subst, refl, ℕ, suc, Bool, true, false, List, Option, Some, None, length, arith}
use Rattle.std.proofs.lemmas.Bool.Decides.{nat_tests}
use Rattle.std.proofs.lemmas.List.{length-map}
use Rattle.std.proofs.lemmas.Option.{slice_get_past}
use Rattle.std.specs.FinSet.{contains, contains-empty}
use Rattle.std.specs.Ordering.{nat_cmp}
use Rattle.std.specs.Prelude.{◌||◌, IfSome, if◌then◌else◌, nat_eq, nat_lt, option_and_then}
use Rattle.naga_arena.specs.Arena.{value_at, values}
use Rattle.naga_arena.specs.declared.span.Span.{Span}
use Rattle.naga_ir.specs.declared.expression.Expression.{Expression}
use Rattle.naga_sets.specs.HandleSet.{BoundedSet, none_below, with_member}
use Rattle.naga_sets.proofs.FinSetLemmas.{contains-insert_number}
use Rattle.naga_flow.specs.ConstantChains.{AreChainsBefore, AreConstantChains, BasePrecedes, BasesPrecede, with_if}
use Rattle.naga_flow.specs.Places.{ready_in}
use Rattle.naga_flow.specs.Readings.{chosen_base, constant_base_of, constant_chains_in, passes, reaches_ready}
use Rattle.naga_flow.proofs.ReachesReadyLemmas.{reaches_ready-stable}

module _ (chosen : ℕ → Bool) (arena : List (Expression × Span)) where
  abbrev ready : ℕ → Bool
  ready x = ready_in (value_at arena x)

  abbrev base : ℕ → Option ℕ
  base = chosen_base chosen arena

  abbrev is_chain : ℕ → Bool
  is_chain = constant_chains_in chosen arena

  -- ---- one expression

  pub constant_chains_in-ready : (handle : ℕ) → ready handle ≡ true → is_chain handle ≡ true
  constant_chains_in-ready handle so = ap (λ t. t || passes (reaches_ready ready base handle) (base handle)) so

  pub constant_chains_in-last : (handle : ℕ) → ready handle ≡ false → base handle ≡ None → is_chain handle ≡ false
  constant_chains_in-last handle so is = λ i. so i || passes (reaches_ready ready base handle) (is i)

  pub constant_chains_in-base : (handle next : ℕ) → BasesPrecede chosen arena (handle + 1) → ready handle ≡ false → base handle ≡ Some next
      → is_chain handle ≡ is_chain next
  constant_chains_in-base handle next precede so is =
      let before : next < handle = earlier handle next (omega arith) is in
      (λ i. so i || passes (reaches_ready ready base handle) (is i))
      ∙ reaches_ready-stable ready base (handle + 1) earlier (suc next) handle next (omega (arith, before)) (omega arith) before
    where
      earlier : (x y : ℕ) → x < handle + 1 → base x ≡ Some y → y < x
      earlier x y within found = subst (λ it. IfSome it (λ z. z < x)) found (precede x within)

  pub next-before : (handle next : ℕ) → BasesPrecede chosen arena (handle + 1) → base handle ≡ Some next → next < handle
  next-before handle next precede is = subst (λ it. IfSome it (λ z. z < handle)) is (precede handle (omega arith))

  pub constant_chains_in-past : (handle : ℕ) → length arena ≤ handle → is_chain handle ≡ false
  constant_chains_in-past handle past =
      constant_chains_in-last handle (ap ready_in missing) (ap (λ found. if chosen handle then option_and_then constant_base_of found else None) missing ∙ either (chosen handle))
    where
      missing : value_at arena handle ≡ None
      missing =
          let len : length (values arena) ≡ length arena = length-map arena (λ entry. entry.0) in
          slice_get_past (values arena) handle (omega (arith, len, past))

      none : Option ℕ
      none = None

      either : (t : Bool) → (if t then none else none) ≡ none
      either true = refl
      either false = refl

  -- ---- the first expressions

  pub BasesPrecede-push : (count : ℕ) → BasesPrecede chosen arena count → BasePrecedes chosen arena count → BasesPrecede chosen arena (count + 1)
  BasesPrecede-push count precede last handle within = go (nat_lt handle count) refl
    where
      go : (t : Bool) → nat_lt handle count ≡ t → BasePrecedes chosen arena handle
      go true test = precede handle (grind (arith, nat_tests))
      go false test = let same : count ≡ handle = grind (arith, nat_tests) in subst (BasePrecedes chosen arena) same last

  pub AreChainsBefore-none : (bound : ℕ) → AreChainsBefore chosen arena 0 (none_below bound)
  AreChainsBefore-none bound = record {
    chains = λ handle within. absurd (omega (arith, within));
    no_others = λ handle past. contains-empty nat_cmp handle;
  }

  AreChainsBefore-with : (count : ℕ) (chains : BoundedSet) → AreChainsBefore chosen arena count chains → is_chain count ≡ true
      → AreChainsBefore chosen arena (count + 1) (with_member chains count)
  AreChainsBefore-with count chains are last = record {
    chains = λ handle within. contains-insert_number chains.members count handle ∙ member handle within (nat_eq handle count) refl;
    no_others = λ handle past. contains-insert_number chains.members count handle ∙ other handle past;
  }
    where
      member : (handle : ℕ) → handle < count + 1 → (t : Bool) → nat_eq handle count ≡ t → (nat_eq handle count || contains chains.members handle) ≡ is_chain handle
      member handle within true test =
          let same : count ≡ handle = grind (arith, nat_tests) in
          ap (λ t. t || contains chains.members handle) test ∙ sym (subst (λ x. is_chain x ≡ true) same last)
      member handle within false test =
          let before : handle < count = grind (arith, nat_tests) in
          ap (λ t. t || contains chains.members handle) test ∙ are.chains handle before

      other : (handle : ℕ) → count + 1 ≤ handle → (nat_eq handle count || contains chains.members handle) ≡ false
      other handle past =
          let differs : nat_eq handle count ≡ false = grind (arith, nat_tests) in
          ap (λ t. t || contains chains.members handle) differs ∙ are.no_others handle (omega (arith, past))

  AreChainsBefore-without : (count : ℕ) (chains : BoundedSet) → AreChainsBefore chosen arena count chains → is_chain count ≡ false
      → AreChainsBefore chosen arena (count + 1) chains
  AreChainsBefore-without count chains are last = record {
    chains = λ handle within. go handle within (nat_lt handle count) refl;
    no_others = λ handle past. are.no_others handle (omega (arith, past));
  }
    where
      go : (handle : ℕ) → handle < count + 1 → (t : Bool) → nat_lt handle count ≡ t → contains chains.members handle ≡ is_chain handle
      go handle within true test = are.chains handle (grind (arith, nat_tests))
      go handle within false test =
          let same : count ≡ handle = grind (arith, nat_tests) in
          are.no_others handle (grind (arith, nat_tests)) ∙ sym (subst (λ x. is_chain x ≡ false) same last)

  pub AreChainsBefore-push : (count : ℕ) (chains : BoundedSet) (is : Bool) → AreChainsBefore chosen arena count chains → is ≡ is_chain count
      → AreChainsBefore chosen arena (count + 1) (with_if is chains count)
  AreChainsBefore-push count chains true are same = AreChainsBefore-with count chains are (sym same)
  AreChainsBefore-push count chains false are same = AreChainsBefore-without count chains are (sym same)

  pub AreConstantChains-all : (count : ℕ) (chains : BoundedSet) → length arena ≤ count → AreChainsBefore chosen arena count chains
      → AreConstantChains chosen arena chains
  AreConstantChains-all count chains all are handle = go (nat_lt handle count) refl
    where
      go : (t : Bool) → nat_lt handle count ≡ t → contains chains.members handle ≡ is_chain handle
      go true test = are.chains handle (grind (arith, nat_tests))
      go false test =
          let past : count ≤ handle = grind (arith, nat_tests) in
          are.no_others handle past ∙ sym (constant_chains_in-past handle (omega (arith, all, past)))
