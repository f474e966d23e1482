-- The position at which a text is rejected.
use Rattle.std.proofs.Common.{◌≡◌, ℕ, List, [], ◌+◌, ◌-◌, ◌≤◌, ◌<◌, Bool, cond, length, take, get_or, ap, ◌∙◌, sym, subst, Some, None, arith, leb, true, false, ◌⊎◌, inl, inr}
use Rattle.std.proofs.lemmas.Bool.Decides.{leb_tells}
use Rattle.std.proofs.lemmas.List.{take_all}
use Rattle.naga_notation.proofs.BeginsLemmas.{Begins-read, Begins-stuck, read-more, Begins-whole}
use Rattle.naga_notation.proofs.DepthAtLemmas.{depth_at-read_byte, depth_at-read_from}
use Rattle.naga_notation.proofs.IsLongestLemmas.{IsLongest-some}
use Rattle.naga_notation.proofs.IsSketchLemmas.{Some-Reached}
use Rattle.naga_notation.proofs.ReadFromLemmas.{read-notation}
use Rattle.naga_notation.specs.Limits.{most_bytes, greatest_depth}
use Rattle.naga_notation.specs.Reading.{Reached, at_statement, start, finished, read_byte, read}
use Rattle.naga_notation.specs.Reading.State.{depth_at}
use Rattle.naga_notation.specs.Refusal.{Begins, IsShallowTo, IsBadAt, IsDeepAt, depth_after, depth_of}

-- the text is invalid at `i` if the byte at `i` may not follow
pub IsBadAt-byte : (text : List ℕ) (i : ℕ) (r : Reached) → length text ≤ most_bytes → i < length text → read (take i text) ≡ Some r → read_byte r (get_or text i 0) ≡ None → IsShallowTo text i → IsBadAt text i
IsBadAt-byte text i r short within e none shallow =
    let ends = read-more text i r within e ∙ none in
    record {
      short = short;
      bad = λ block is. (let past : length text ≤ i = Begins-stuck text i (length text) ends (Begins-whole text block is) in omega (arith, past, within));
      place = record {
        within = omega (arith, within);
        begins = Begins-read (take i text) r e;
        longest = λ k _ begins. Begins-stuck text i k ends begins;
      };
      shallow = shallow;
    }

-- the text is invalid at its end if it can be read to its end and something is unfinished there
pub IsBadAt-unfinished : (text : List ℕ) (r : Reached) → length text ≤ most_bytes → read text ≡ Some r → finished r ≡ None → IsShallowTo text (length text) → IsBadAt text (length text)
IsBadAt-unfinished text r short e unfinished shallow =
    record {
      short = short;
      bad = λ block is. (
          let finished_too : finished r ≡ Some block = ap finished (Some-Reached r (at_statement [] block) (sym e ∙ read-notation text block is)) in
          let both : None ≡ Some block = sym unfinished ∙ finished_too in
          cc
          );
      place = record {
        within = omega arith;
        begins = subst Begins (sym (take_all (length text) text (omega arith))) (Begins-read text r e);
        longest = λ k within _. within;
      };
      shallow = shallow;
    }

depth_after-le_by : (opens closes : Bool) (depth : ℕ) → cond opens (depth + 1) (cond closes (depth - 1) depth) ≤ depth + 1
depth_after-le_by true closes depth = omega arith
depth_after-le_by false true depth = omega arith
depth_after-le_by false false depth = omega arith

-- a byte increases the depth by at most 1
depth_after-le : (depth byte : ℕ) → depth_after depth byte ≤ depth + 1
depth_after-le depth byte = depth_after-le_by _ _ depth

-- the text is too deep at `i` if the byte at `i` opens a block that is too deep
pub IsDeepAt-byte : (text : List ℕ) (i : ℕ) (r s : Reached) → length text ≤ most_bytes → i < length text → read (take i text) ≡ Some r → read_byte r (get_or text i 0) ≡ Some s → greatest_depth < depth_at s → IsShallowTo text i → IsDeepAt text i
IsDeepAt-byte text i r s short within e next deep shallow =
    let byte = get_or text i 0 in
    let after : read (take (i + 1) text) ≡ Some s = read-more text i r within e ∙ next in
    let now : depth_at s ≡ depth_of (take (i + 1) text) = depth_at-read_from (take (i + 1) text) start s after in
    let before : depth_at r ≡ depth_of (take i text) = depth_at-read_from (take i text) start r e in
    let one : depth_at s ≡ depth_after (depth_at r) byte = depth_at-read_byte r s byte next in
    let most : depth_at s ≤ depth_at r + 1 = subst (λ n. n ≤ depth_at r + 1) (sym one) (depth_after-le (depth_at r) byte) in
    let low : depth_of (take i text) ≤ greatest_depth = shallow i (omega arith) in
    let longest = IsLongest-some text in
    let past : i + 1 ≤ longest.0 = longest.1.longest (i + 1) (omega (arith, within)) (Begins-read (take (i + 1) text) s after) in
    record {
      short = short;
      deep = record {
        within = within;
        deep = omega (arith, now, before, most, low, deep);
        first = shallow;
      };
      inside = (longest.0, longest.1, omega (arith, past));
    }

IsShallowTo-by : (text : List ℕ) (i : ℕ) → depth_of (take (i + 1) text) ≤ greatest_depth → IsShallowTo text i → (k : ℕ) → k ≤ i + 1 → ((leb k i ≡ true) × (k ≤ i)) ⊎ ((leb k i ≡ false) × (i < k)) → depth_of (take k text) ≤ greatest_depth
IsShallowTo-by text i low shallow k within (inl before) = shallow k before.1
IsShallowTo-by text i low shallow k within (inr here) =
    let same : i + 1 ≡ k = omega (arith, within, here.1) in
    subst (λ n. depth_of (take n text) ≤ greatest_depth) same low

-- no prefix of at most `i + 1` bytes is too deep if none of at most `i` bytes is, and the state after `i + 1` bytes is
-- not
pub IsShallowTo-more : (text : List ℕ) (i : ℕ) (s : Reached) → read (take (i + 1) text) ≡ Some s → depth_at s ≤ greatest_depth → IsShallowTo text i → IsShallowTo text (i + 1)
IsShallowTo-more text i s e low shallow k within =
    let now : depth_at s ≡ depth_of (take (i + 1) text) = depth_at-read_from (take (i + 1) text) start s e in
    IsShallowTo-by text i (subst (λ n. n ≤ greatest_depth) now low) shallow k within (leb_tells k i)
