-- The keys of a module differ.
use Rattle.std.proofs.Common.{◌≡◌, ◌≢◌, ℕ, ◌+◌, ◌<◌, ◌≤◌, List, [], ◌∷◌, ◌++◌, All, refl, ap, arith}
use Rattle.std.proofs.lemmas.List.Elements.{All-append, All-cons, All-head, All-nil, All-tail, All-weaker}
use Rattle.naga_arena.specs.Arena.{values}
use Rattle.naga_ir.specs.declared.module.EntryPoint as entry_point
use Rattle.naga_ir.specs.declared.module.Function as function
use Rattle.naga_ir.specs.declared.module.Module as the_module
use Rattle.naga_ir.specs.declared.types.«Type».{«Type» as NamedType}
use Rattle.naga_ir.specs.declared.types.TypeInner.{TypeInner}
use Rattle.naga_ir.specs.declared.types.TypeInner.TheVariants as inner
use Rattle.naga_namer.specs.Declarations.{argument_key, body_key, each, key_of_each, keys_of_body, keys_of_members, keys_of_module, local_key}
use Rattle.naga_namer.specs.Scopes.{AllDiffer, IsNew}
use Rattle.naga_namer.specs.declared.name_key.BodyKey.{BodyKey}
use Rattle.naga_namer.specs.declared.name_key.BodyKey.TheVariants as body
use Rattle.naga_namer.specs.declared.name_key.NameKey.{NameKey}
use Rattle.naga_namer.specs.declared.name_key.NameKey.TheVariants as key
use Rattle.naga_namer.proofs.EachLemmas.{each-all}

-- ---- lists of which a number tells the items apart

module _ {A : Type 0} (number : A → ℕ) where
  apart-from : (x : A) (bound : ℕ) (ys : List A) → number x < bound → All (λ y. bound ≤ number y) ys → IsNew x ys
  apart-from x bound ys below above =
      All-weaker (λ y. bound ≤ number y) (λ y. x ≢ y) (λ y high (same : x ≡ y). let equal : number x ≡ number y = ap number same in omega arith) ys above

  apart : (bound : ℕ) (xs ys : List A) → All (λ x. number x < bound) xs → All (λ y. bound ≤ number y) ys → All (λ x. IsNew x ys) xs
  apart bound xs ys below above =
      All-weaker (λ x. number x < bound) (λ x. IsNew x ys) (λ x low. apart-from x bound ys low above) xs below

differ-append : {A : Type 0} (xs ys : List A) → AllDiffer xs → AllDiffer ys → All (λ x. IsNew x ys) xs → AllDiffer (xs ++ ys)
differ-append [] ys first second new = second
differ-append (x ∷ xs) ys first second new = (
  All-append (λ y. x ≢ y) xs ys first.0 (All-head (λ x. IsNew x ys) x xs new),
  differ-append xs ys first.1 second (All-tail (λ x. IsNew x ys) x xs new),
)

-- of the items of a list that differ, the numbers are at least this
record Above {A : Type 0} (number : A → ℕ) (low : ℕ) (items : List A) : Type 0 where
  differ : AllDiffer items
  high : All (λ x. low ≤ number x) items

module _ {A : Type 0} (number : A → ℕ) where
  none-above : (low : ℕ) → Above number low []
  none-above low = record { differ = tt; high = All-nil (λ x. low ≤ number x) }

  -- items with one number before items with greater ones
  level : (n : ℕ) (xs ys : List A) → AllDiffer xs → All (λ x. number x ≡ n) xs → Above number (n + 1) ys → Above number n (xs ++ ys)
  level n xs ys differ at above =
      let low : All (λ x. number x < n + 1) xs = All-weaker (λ x. number x ≡ n) (λ x. number x < n + 1) (λ x is. omega arith) xs at in
      let here : All (λ x. n ≤ number x) xs = All-weaker (λ x. number x ≡ n) (λ x. n ≤ number x) (λ x is. omega arith) xs at in
      let there : All (λ x. n ≤ number x) ys = All-weaker (λ x. n + 1 ≤ number x) (λ x. n ≤ number x) (λ x high. omega arith) ys above.high in
      record {
        differ = differ-append xs ys differ above.differ (apart number (n + 1) xs ys low above.high);
        high = All-append (λ x. n ≤ number x) xs ys here there;
      }

  each-above : {X : Type 0} (make : ℕ → X → List A) → ((i : ℕ) (x : X) → AllDiffer (make i x)) → ((i : ℕ) (x : X) → All (λ y. number y ≡ i) (make i x))
      → (start : ℕ) (xs : List X) → Above number start (each make start xs)
  each-above make differ at start [] = none-above start
  each-above make differ at start (x ∷ xs) = level start (make start x) (each make (start + 1) xs) (differ start x) (at start x) (each-above make differ at (start + 1) xs)

  one-at : (n : ℕ) (x : A) → number x ≡ n → All (λ y. number y ≡ n) (x ∷ [])
  one-at n x is = All-cons (λ y. number y ≡ n) x [] is (All-nil (λ y. number y ≡ n))

one-differs : {A : Type 0} (x : A) → AllDiffer (x ∷ [])
one-differs x = (All-nil (λ y. x ≢ y), tt)

-- ---- the numbers of keys

-- the part of a module
abbrev kind : NameKey → ℕ
kind (key.«Type» ty) = 0
kind (key.EntryPoint entry) = 1
kind (key.EntryPointArgument entry index) = 1
kind (key.EntryPointLocal entry local) = 1
kind (key.Function handle) = 2
kind (key.FunctionArgument handle index) = 2
kind (key.FunctionLocal handle local) = 2
kind (key.GlobalVariable handle) = 3
kind (key.Constant handle) = 4
kind (key.Override handle) = 5
kind (key.StructMember ty index) = 6

-- the position in the part
abbrev place : NameKey → ℕ
place (key.«Type» ty) = ty
place (key.EntryPoint entry) = entry
place (key.EntryPointArgument entry index) = entry
place (key.EntryPointLocal entry local) = entry
place (key.Function handle) = handle
place (key.FunctionArgument handle index) = handle
place (key.FunctionLocal handle local) = handle
place (key.GlobalVariable handle) = handle
place (key.Constant handle) = handle
place (key.Override handle) = handle
place (key.StructMember ty index) = ty

-- the part of a body
abbrev role : NameKey → ℕ
role (key.EntryPointArgument entry index) = 1
role (key.FunctionArgument handle index) = 1
role (key.EntryPointLocal entry local) = 2
role (key.FunctionLocal handle local) = 2
role _ = 0

-- the position in that part, or in a structure
abbrev index_of : NameKey → ℕ
index_of (key.EntryPointArgument entry index) = index
index_of (key.FunctionArgument handle index) = index
index_of (key.EntryPointLocal entry local) = local
index_of (key.FunctionLocal handle local) = local
index_of (key.StructMember ty index) = index
index_of _ = 0

-- keys that a number tells apart
singles-differ : {X : Type 0} (number : NameKey → ℕ) (make : ℕ → NameKey) → ((i : ℕ) → number (make i) ≡ i) → (xs : List X) → AllDiffer (key_of_each make xs)
singles-differ number make is xs =
    (each-above number (λ i _. make i ∷ []) (λ i x. one-differs (make i)) (λ i x. one-at number i (make i) (is i)) 0 xs).differ

singles-at : {X : Type 0} (number : NameKey → ℕ) (n : ℕ) (make : ℕ → NameKey) → ((i : ℕ) → number (make i) ≡ n) → (xs : List X)
    → All (λ k. number k ≡ n) (key_of_each make xs)
singles-at number n make is xs =
    each-all (λ i _. make i ∷ []) (λ k. number k ≡ n) (λ i x. one-at number n (make i) (is i)) 0 xs

-- ---- bodies

module _ (owner : BodyKey) where
  argument-role : (b : BodyKey) (i : ℕ) → role (argument_key b i) ≡ 1
  argument-role (body.Function handle) i = refl
  argument-role (body.EntryPoint entry) i = refl

  argument-index : (b : BodyKey) (i : ℕ) → index_of (argument_key b i) ≡ i
  argument-index (body.Function handle) i = refl
  argument-index (body.EntryPoint entry) i = refl

  local-role : (b : BodyKey) (i : ℕ) → role (local_key b i) ≡ 2
  local-role (body.Function handle) i = refl
  local-role (body.EntryPoint entry) i = refl

  local-index : (b : BodyKey) (i : ℕ) → index_of (local_key b i) ≡ i
  local-index (body.Function handle) i = refl
  local-index (body.EntryPoint entry) i = refl

  own-role : (b : BodyKey) → role (body_key b) ≡ 0
  own-role (body.Function handle) = refl
  own-role (body.EntryPoint entry) = refl

  body-differs : (whole : function.Function) → AllDiffer (keys_of_body owner whole)
  body-differs whole =
      let arguments : List NameKey = key_of_each (argument_key owner) whole.arguments.items in
      let locals : List NameKey = key_of_each (local_key owner) (values whole.local_variables) in
      let last : Above role 2 locals = record {
        differ = singles-differ index_of (local_key owner) (local-index owner) (values whole.local_variables);
        high = All-weaker (λ k. role k ≡ 2) (λ k. 2 ≤ role k) (λ k is. omega arith) locals (singles-at role 2 (local_key owner) (local-role owner) (values whole.local_variables));
      } in
      let both : Above role 1 (arguments ++ locals) =
      level role 1 arguments locals (singles-differ index_of (argument_key owner) (argument-index owner) whole.arguments.items)
      (singles-at role 1 (argument_key owner) (argument-role owner) whole.arguments.items) last in
      (level role 0 (body_key owner ∷ []) (arguments ++ locals) (one-differs (body_key owner)) (one-at role 0 (body_key owner) (own-role owner)) both).differ

  -- a number that all keys of a body have
  body-at : (number : NameKey → ℕ) (n : ℕ) → number (body_key owner) ≡ n → ((i : ℕ) → number (argument_key owner i) ≡ n)
      → ((i : ℕ) → number (local_key owner i) ≡ n) → (whole : function.Function) → All (λ k. number k ≡ n) (keys_of_body owner whole)
  body-at number n own argument local whole =
      let arguments : List NameKey = key_of_each (argument_key owner) whole.arguments.items in
      let locals : List NameKey = key_of_each (local_key owner) (values whole.local_variables) in
      All-cons (λ k. number k ≡ n) (body_key owner) (arguments ++ locals) own
      (All-append (λ k. number k ≡ n) arguments locals (singles-at number n (argument_key owner) argument whole.arguments.items)
      (singles-at number n (local_key owner) local (values whole.local_variables)))

entry-at : (number : NameKey → ℕ) (n : ℕ) (i : ℕ) → number (key.EntryPoint i) ≡ n → ((j : ℕ) → number (key.EntryPointArgument i j) ≡ n)
    → ((j : ℕ) → number (key.EntryPointLocal i j) ≡ n) → (entry : entry_point.EntryPoint)
    → All (λ k. number k ≡ n) (keys_of_body (body.EntryPoint i) entry.function)
entry-at number n i own argument local entry = body-at (body.EntryPoint i) number n own argument local entry.function

-- ---- members

members-differ : (ty : ℕ) (contents : TypeInner) → AllDiffer (keys_of_members ty contents)
members-differ ty (inner.Struct members span) = singles-differ index_of (key.StructMember ty) (λ i. refl) members.items
members-differ ty _ = tt

members-at : (number : NameKey → ℕ) (n : ℕ) (ty : ℕ) → ((i : ℕ) → number (key.StructMember ty i) ≡ n) → (contents : TypeInner)
    → All (λ k. number k ≡ n) (keys_of_members ty contents)
members-at number n ty is (inner.Struct members span) = singles-at number n (key.StructMember ty) is members.items
members-at number n ty is _ = All-nil (λ k. number k ≡ n)

-- ---- a module

module _ (whole : the_module.Module) where
  abbrev entry_keys : ℕ → entry_point.EntryPoint → List NameKey
  entry_keys i entry = keys_of_body (body.EntryPoint i) entry.function

  abbrev function_keys : ℕ → function.Function → List NameKey
  function_keys i it = keys_of_body (body.Function i) it

  abbrev type_members : ℕ → NamedType → List NameKey
  type_members ty type = keys_of_members ty type.inner

  members-above : Above kind 6 (each type_members 0 (values whole.types))
  members-above = record {
    differ = (each-above place type_members (λ ty type. members-differ ty type.inner) (λ ty type. members-at place ty ty (λ i. refl) type.inner) 0 (values whole.types)).differ;
    high = All-weaker (λ k. kind k ≡ 6) (λ k. 6 ≤ kind k) (λ k is. omega arith) (each type_members 0 (values whole.types))
        (each-all type_members (λ k. kind k ≡ 6) (λ ty type. members-at kind 6 ty (λ i. refl) type.inner) 0 (values whole.types));
  }

  constants-above : Above kind 3 (key_of_each key.GlobalVariable (values whole.global_variables)
      ++ (key_of_each key.Constant (values whole.constants) ++ (key_of_each key.Override (values whole.overrides) ++ each type_members 0 (values whole.types))))
  constants-above =
      level kind 3 (key_of_each key.GlobalVariable (values whole.global_variables)) _
      (singles-differ place key.GlobalVariable (λ i. refl) (values whole.global_variables)) (singles-at kind 3 key.GlobalVariable (λ i. refl) (values whole.global_variables))
      (level kind 4 (key_of_each key.Constant (values whole.constants)) _
      (singles-differ place key.Constant (λ i. refl) (values whole.constants)) (singles-at kind 4 key.Constant (λ i. refl) (values whole.constants))
      (level kind 5 (key_of_each key.Override (values whole.overrides)) _
      (singles-differ place key.Override (λ i. refl) (values whole.overrides)) (singles-at kind 5 key.Override (λ i. refl) (values whole.overrides))
      members-above))

  pub keys-differ : AllDiffer (keys_of_module whole)
  keys-differ =
      (level kind 0 (key_of_each key.«Type» (values whole.types)) _
      (singles-differ place key.«Type» (λ i. refl) (values whole.types)) (singles-at kind 0 key.«Type» (λ i. refl) (values whole.types))
      (level kind 1 (each entry_keys 0 whole.entry_points.items) _
      (each-above place entry_keys (λ i entry. body-differs (body.EntryPoint i) entry.function)
      (λ i entry. entry-at place i i refl (λ j. refl) (λ j. refl) entry) 0 whole.entry_points.items).differ
      (each-all entry_keys (λ k. kind k ≡ 1) (λ i entry. entry-at kind 1 i refl (λ j. refl) (λ j. refl) entry) 0 whole.entry_points.items)
      (level kind 2 (each function_keys 0 (values whole.functions)) _
      (each-above place function_keys (λ i it. body-differs (body.Function i) it)
      (λ i it. body-at (body.Function i) place i refl (λ j. refl) (λ j. refl) it) 0 (values whole.functions)).differ
      (each-all function_keys (λ k. kind k ≡ 2) (λ i it. body-at (body.Function i) kind 2 refl (λ j. refl) (λ j. refl) it) 0 (values whole.functions))
      constants-above))).differ
