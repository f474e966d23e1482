-- Sets that are made by asking each handle in turn.
use Rattle.std.proofs.Common.{◌≡◌, ◌∙◌, ◌<◌, ◌≤◌, ◌+◌, sym, ap, subst, refl, ℕ, Bool, true, false, Option, None, length, arith}
use Rattle.std.proofs.lemmas.Bool.Decides.{nat_tests}
use Rattle.std.proofs.lemmas.List.{length-map}
use Rattle.std.proofs.lemmas.Option.{slice_get_past}
use Rattle.std.specs.FinSet.{contains, contains-empty}
use Rattle.std.specs.Ordering.{nat_cmp}
use Rattle.std.specs.Prelude.{◌||◌, nat_eq, nat_lt}
use Rattle.naga_arena.specs.Arena.{values}
use Rattle.naga_ir.specs.declared.expression.Expression.{Expression}
use Rattle.naga_sets.specs.HandleSet.{BoundedSet, none_below, with_member}
use Rattle.naga_sets.proofs.FinSetLemmas.{contains-insert_number}
use Rattle.naga_flow.specs.ConstantChains.{with_if}
use Rattle.naga_flow.specs.Readings.{constant_base_of, passes}
use Rattle.naga_typifier.specs.Rows.{◌>>=◌}
use Rattle.naga_bounds.specs.Reach.{Typed, expression_at, is_fixed_access, is_fixed_access_to}

-- of the first handles, the set has those that pass the test, and it has no others
pub record HasPassing (test : ℕ → Bool) (count : ℕ) (found : BoundedSet) : Type 0 where
  pub passing : (handle : ℕ) → handle < count → contains found.members handle ≡ test handle
  pub no_others : (handle : ℕ) → count ≤ handle → contains found.members handle ≡ false

module _ (test : ℕ → Bool) where
  pub HasPassing-none : (bound : ℕ) → HasPassing test 0 (none_below bound)
  HasPassing-none bound = record {
    passing = λ handle within. absurd (omega (arith, within));
    no_others = λ handle past. contains-empty nat_cmp handle;
  }

  HasPassing-with : (count : ℕ) (found : BoundedSet) → HasPassing test count found → test count ≡ true → HasPassing test (count + 1) (with_member found count)
  HasPassing-with count found has last = record {
    passing = λ handle within. contains-insert_number found.members count handle ∙ member handle within (nat_eq handle count) refl;
    no_others = λ handle past. contains-insert_number found.members count handle ∙ other handle past;
  }
    where
      member : (handle : ℕ) → handle < count + 1 → (t : Bool) → nat_eq handle count ≡ t → (nat_eq handle count || contains found.members handle) ≡ test handle
      member handle within true is =
          let same : count ≡ handle = grind (arith, nat_tests) in
          ap (λ t. t || contains found.members handle) is ∙ sym (subst (λ x. test x ≡ true) same last)
      member handle within false is =
          let before : handle < count = grind (arith, nat_tests) in
          ap (λ t. t || contains found.members handle) is ∙ has.passing handle before

      other : (handle : ℕ) → count + 1 ≤ handle → (nat_eq handle count || contains found.members handle) ≡ false
      other handle past =
          let differs : nat_eq handle count ≡ false = grind (arith, nat_tests) in
          ap (λ t. t || contains found.members handle) differs ∙ has.no_others handle (omega (arith, past))

  HasPassing-without : (count : ℕ) (found : BoundedSet) → HasPassing test count found → test count ≡ false → HasPassing test (count + 1) found
  HasPassing-without count found has last = record {
    passing = λ handle within. go handle within (nat_lt handle count) refl;
    no_others = λ handle past. has.no_others handle (omega (arith, past));
  }
    where
      go : (handle : ℕ) → handle < count + 1 → (t : Bool) → nat_lt handle count ≡ t → contains found.members handle ≡ test handle
      go handle within true is = has.passing handle (grind (arith, nat_tests))
      go handle within false is =
          let same : count ≡ handle = grind (arith, nat_tests) in
          has.no_others handle (grind (arith, nat_tests)) ∙ sym (subst (λ x. test x ≡ false) same last)

  -- one more handle
  pub HasPassing-push : (count : ℕ) (found : BoundedSet) (is : Bool) → HasPassing test count found → is ≡ test count → HasPassing test (count + 1) (with_if is found count)
  HasPassing-push count found true has same = HasPassing-with count found has (sym same)
  HasPassing-push count found false has same = HasPassing-without count found has (sym same)

  -- all handles, where none passes from here on
  pub HasPassing-all : (count : ℕ) (found : BoundedSet) → HasPassing test count found → ((handle : ℕ) → count ≤ handle → test handle ≡ false) → (handle : ℕ) → contains found.members handle ≡ test handle
  HasPassing-all count found has none handle = go (nat_lt handle count) refl
    where
      go : (t : Bool) → nat_lt handle count ≡ t → contains found.members handle ≡ test handle
      go true is = has.passing handle (grind (arith, nat_tests))
      go false is =
          let past : count ≤ handle = grind (arith, nat_tests) in
          has.no_others handle past ∙ sym (none handle past)

pub fixed-past : (code : Typed) (handle : ℕ) → length code.arena ≤ handle → is_fixed_access code handle ≡ false
fixed-past code handle past =
    let len : length (values code.arena) ≡ length code.arena = length-map code.arena (λ entry. entry.0) in
    let missing : expression_at code handle ≡ None = slice_get_past (values code.arena) handle (omega (arith, len, past)) in
    ap (λ (found : Option Expression). passes (is_fixed_access_to code handle) (found >>= constant_base_of)) missing
