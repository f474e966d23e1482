-- Sets with several members inserted one after another, or emptied step by step.
use Rattle.std.proofs.Common.{◌≡◌, ℕ, List, [], ◌∷◌, ◌++◌, length, refl, sym, ap, ◌∙◌, arith}
use Rattle.std.specs.FinSet.{remove, len, len-empty}
use Rattle.std.specs.Ordering.{nat_cmp}
use Rattle.naga_sets.specs.HandleSet.{BoundedSet, with_member, with_members, EmptiesInSteps}
use Rattle.naga_sets.proofs.AreWordsForLemmas.{AreWordsFor-none}
use Rattle.naga_sets.proofs.BitSetLemmas.{contains-bit_set, bit_set-nil}
use Rattle.naga_sets.proofs.BitsFromLemmas.{len-bit_set, length-bits_from_le, All-bits_from, IsStrictlyIncreasing-bits_from}
use Rattle.naga_sets.proofs.FinSetLemmas.{len-remove_member}

-- inserting one more handle after a list of handles
pub with_members-push : (s : BoundedSet) (handles : List ℕ) (handle : ℕ) → with_members s (handles ++ handle ∷ []) ≡ with_member (with_members s handles) handle
with_members-push s [] handle = refl
with_members-push s (first ∷ rest) handle = with_members-push (with_member s first) rest handle

-- for the calls that insert several handles
pub ruleset inserting = (with_members-push)

-- for the calls that use the words of a set
pub ruleset representing = (AreWordsFor-none, contains-bit_set, bit_set-nil, len-bit_set, length-bits_from_le, All-bits_from, IsStrictlyIncreasing-bits_from)

-- if each step removes the greatest member and the last set is empty, there are as many steps as members
pub length-EmptiesInSteps : (s : BoundedSet) (after : List BoundedSet) → EmptiesInSteps s after → length after ≡ len s.members
length-EmptiesInSteps s [] none = sym (ap len none ∙ len-empty nat_cmp)
length-EmptiesInSteps s (next ∷ rest) steps =
    let fewer = len-remove_member s.members steps.0.0 steps.0.1.member in
    let left : len next.members ≡ len (remove s.members steps.0.0) = ap (λ (t : BoundedSet). len t.members) steps.0.2 in
    omega (arith, fewer, left, length-EmptiesInSteps next rest steps.1)
