-- The facts about indices, clamps, lengths and calls hold in the interpretation with a variable and an array.
use Rattle.std.proofs.Common.{◌≡◌, ◌∙◌, arith, ap, refl, subst, sym, ℕ, suc, ◌<◌, ◌≤◌, ◌-◌, ◌%◌, List, Some, None, Ok, true, false}
use Rattle.std.proofs.lemmas.Bool.Decides.{nat_tests}
use Rattle.std.proofs.lemmas.Nat.{and_le_l, and_le_r}
use Rattle.std.specs.Prelude.{⊤, bit_and, if◌then◌else◌, nat_lt}
use Rattle.naga_arena.specs.Limits.{max_len}
use Rattle.naga_ir.specs.Literal.{u32_of}
use Rattle.naga_ir.specs.declared.expression.Expression.{Expression}
use Rattle.naga_ir.specs.declared.expression.Expression.TheVariants as expr
use Rattle.naga_ir.specs.declared.literal.Literal as written
use Rattle.naga_ir.specs.declared.literal.Literal.TheVariants.{U32}
use Rattle.naga_bounds.specs.Calls.{CallsKeepLengths}
use Rattle.naga_bounds.specs.Model.{Memory, Value, unsigned, integer, negative, to_variable, to_element, to_nothing, element_or, extent, larger, literal, nothing_known, number, other_literal, plain_calls, read, remembering, smaller, unsigned_number}
use Rattle.naga_bounds.specs.Respects.{HasElements, HaveShortLengths, IsSteady, LengthsStay, RespectsClamps, RespectsIndices, applied}

inside : {m n : ℕ} → Some m ≡ Some n → m ≡ n
inside h = cc

smaller-below : (m n : ℕ) → smaller m n ≤ n
smaller-below m n = grind arith

smaller-before : (m n : ℕ) → smaller m n ≤ m
smaller-before m n = grind arith

remainder-below : (m n : ℕ) → m % suc n ≤ n
remainder-below m n = grind arith

smaller-first : (m n : ℕ) → m ≤ n → smaller m n ≡ m
smaller-first m n h = grind (arith, h)

less-one : (n : ℕ) → suc n - 1 ≡ n
less-one n = omega arith

-- ---- values

read-number : (value : Value) (n : ℕ) → number value ≡ Some n → read value ≡ n
read-number (unsigned m) n h = inside h
read-number (integer m) n h = inside h
read-number negative n h = absurd (let e : None ≡ Some n = h in cc)
read-number to_variable n h = absurd (let e : None ≡ Some n = h in cc)
read-number (to_element index) n h = absurd (let e : None ≡ Some n = h in cc)
read-number to_nothing n h = absurd (let e : None ≡ Some n = h in cc)

number-unsigned : (value : Value) (n : ℕ) → unsigned_number value ≡ Some n → number value ≡ Some n
number-unsigned (unsigned m) n h = h
number-unsigned (integer m) n h = absurd (let e : None ≡ Some n = h in cc)
number-unsigned negative n h = absurd (let e : None ≡ Some n = h in cc)
number-unsigned to_variable n h = absurd (let e : None ≡ Some n = h in cc)
number-unsigned (to_element index) n h = absurd (let e : None ≡ Some n = h in cc)
number-unsigned to_nothing n h = absurd (let e : None ≡ Some n = h in cc)

read-unsigned : (value : Value) (n : ℕ) → unsigned_number value ≡ Some n → read value ≡ n
read-unsigned value n h = read-number value n (number-unsigned value n h)

number-literal : (it : written.Literal) (n : ℕ) → u32_of it ≡ Ok n → number (literal it) ≡ Some n
number-literal (U32 m) n h = ap Some (let same : m ≡ n = (let e : Ok m ≡ Ok n = h in cc) in same)
number-literal _ n h = ap (λ found. number (other_literal found)) h

-- ---- indices

pub respects : RespectsIndices nothing_known remembering number unsigned_number
respects = record {
  literals = λ it n memory h. number-literal it n h;
  unsigned_literals = λ n memory. refl;
  bounded = λ value limit n memory h. (
    (smaller (read value) (read limit), subst (λ k. smaller (read value) (read limit) ≤ k) (read-unsigned limit n h) (smaller-below (read value) (read limit)), refl),
    (smaller (read limit) (read value), subst (λ k. smaller (read limit) (read value) ≤ k) (read-unsigned limit n h) (smaller-before (read limit) (read value)), refl),
  );
  masked = λ value mask n memory h. (
    (bit_and (read value) (read mask), subst (λ k. bit_and (read value) (read mask) ≤ k) (read-unsigned mask n h) (and_le_r (read value) (read mask)), refl),
    (bit_and (read mask) (read value), subst (λ k. bit_and (read mask) (read value) ≤ k) (read-unsigned mask n h) (and_le_l (read mask) (read value)), refl),
  );
  clamped = λ value low high m n memory h k below.
      (smaller (larger (read value) (read low)) (read high), subst (λ k. smaller (larger (read value) (read low)) (read high) ≤ k) (read-unsigned high n k) (smaller-below (larger (read value) (read low)) (read high)), refl);
  remainders = λ left right n memory h.
      (read left % suc n, remainder-below (read left) n, ap (λ k. Some (read left % k)) (read-unsigned right (suc n) h));
  unsigned_lengths = λ array memory. refl;
  lessened = λ left right n memory h k.
      ap Some (ap (λ l. l - read right) (read-number left (suc n) h) ∙ (ap (λ r. suc n - r) (read-unsigned right 1 k) ∙ less-one n));
}

pub elements : HasElements nothing_known remembering number (λ handle. ⊤)
elements = record {
  counted = λ array memory. (smaller memory.last max_len, refl);
  overridden = λ handle memory size. (smaller memory.last max_len, refl);
}

-- ---- clamps

element-same : (past other : Value) (n count : ℕ) (memory : Memory) → Some (extent memory) ≡ Some count → n < count → element_or past n memory ≡ element_or other n memory
element-same past other n count memory h below =
    let test : nat_lt n (extent memory) ≡ true = (let same = inside h in grind (arith, nat_tests, same, below)) in
    ap (λ t. if t then to_element n else past) test ∙ sym (ap (λ t. if t then to_element n else other) test)

pub clamps : RespectsClamps nothing_known remembering number unsigned_number
clamps = record {
  minima = λ value limit m n memory h k below.
      ap Some (ap (λ v. smaller v (read limit)) (read-number value m h) ∙ (ap (λ l. smaller m l) (read-unsigned limit n k) ∙ smaller-first m n below));
  converted = λ value n memory h small. ap Some (read-number value n h);
  elements = λ base index other n memory h k. ap (λ i. element_or to_nothing i memory) (read-number index n h ∙ sym (read-number other n k));
  counted_elements = λ base index n count memory h k below.
      ap (λ i. element_or to_nothing i memory) (read-number index n h) ∙ element-same to_nothing negative n count memory k below;
  overridden_elements = λ base index handle n count memory h k below.
      ap (λ i. element_or to_nothing i memory) (read-number index n h) ∙ element-same to_nothing negative n count memory k below;
}

short-length : (memory : Memory) (n : ℕ) → Some (extent memory) ≡ Some (suc n) → n ≤ max_len
short-length memory n h =
    let same : smaller memory.last max_len ≡ n = (let e : suc (smaller memory.last max_len) ≡ suc n = inside h in omega (arith, e)) in
    subst (λ last. last ≤ max_len) same (smaller-below memory.last max_len)

pub short : HaveShortLengths nothing_known remembering number (λ handle. ⊤)
short = record {
  counted = λ array n memory h. short-length memory n h;
  overridden = λ handle n memory size h. short-length memory n h;
}

-- ---- lengths

-- what is steady does not depend on the variable
steady-kept : (operator : Expression) (values : List Value) (held : Value) (memory : Memory) → IsSteady operator
    → applied nothing_known remembering operator values (record memory { variable = held }) ≡ applied nothing_known remembering operator values memory
steady-kept (expr.Load pointer) values held memory steady = absurd (let e : false ≡ true = steady in cc)
steady-kept _ values held memory steady = refl

pub stays : LengthsStay nothing_known remembering number
stays = record {
  array_lengths = λ action values array memory. refl;
  ready = λ action values operator operands memory h. steady-kept operator operands (remembering.perform action values memory).0.variable memory h;
}

pub calls : CallsKeepLengths nothing_known remembering number plain_calls
calls = record {
  enters = λ initials memory array. refl;
  lengths = λ thing values memory left h array. refl;
  ready = λ thing values memory left h operator operands steady. steady-kept operator operands left.state.variable memory steady;
}
