-- Lists of which one has each element of the other.
use Rattle.std.proofs.Common.{◌≡◌, ◌<◌, ℕ, zero, suc, inl, inr, List, [], ◌∷◌, ◌++◌, arith}
use Rattle.std.proofs.lemmas.List.Elements.{Contains-append_cases, Contains-append_left, Contains-append_right}
use Rattle.std.specs.List.{Contains}
use Rattle.std.specs.Prelude.{slice_index_or}
use Rattle.naga_flow.specs.Tracking.{AreSame, Includes}

pub Includes-itself : {xs : List ℕ} → Includes xs xs
Includes-itself = record { each = λ x h. h }

pub Includes-nothing : {xs : List ℕ} → Includes xs []
Includes-nothing = record { each = λ x h. absurd (omega (arith, h.1)) }

pub Includes-chain : {xs ys zs : List ℕ} → Includes xs ys → Includes ys zs → Includes xs zs
Includes-chain h k = record { each = λ x c. h.each x (k.each x c) }

pub Includes-left : (xs ys : List ℕ) {zs : List ℕ} → Includes xs zs → Includes (xs ++ ys) zs
Includes-left xs ys h = record { each = λ x c. Contains-append_left xs ys x (h.each x c) }

pub Includes-right : (xs ys : List ℕ) {zs : List ℕ} → Includes ys zs → Includes (xs ++ ys) zs
Includes-right xs ys h = record { each = λ x c. Contains-append_right xs ys x (h.each x c) }

pub Includes-both : (xs ys : List ℕ) {zs : List ℕ} → Includes zs xs → Includes zs ys → Includes zs (xs ++ ys)
Includes-both xs ys {zs = zs} h k = record {
  each = λ x c. elim (Contains-append_cases xs ys x c) as (λ _. Contains zs x) [ inl a ↦ h.each x a | inr b ↦ k.each x b ];
}

pub Includes-joined : (xs xs' ys ys' : List ℕ) → Includes xs' xs → Includes ys' ys → Includes (xs' ++ ys') (xs ++ ys)
Includes-joined xs xs' ys ys' h k = Includes-both xs ys (Includes-left xs' ys' h) (Includes-right xs' ys' k)

pub Includes-added : (x : ℕ) (xs xs' : List ℕ) → Includes xs' xs → Includes (x ∷ xs') (x ∷ xs)
Includes-added x xs xs' h = Includes-joined (x ∷ []) (x ∷ []) xs xs' Includes-itself h

-- in another order
pub Includes-shifted : (xs ys zs : List ℕ) → Includes (ys ++ (xs ++ zs)) ((xs ++ ys) ++ zs)
Includes-shifted xs ys zs =
    Includes-both (xs ++ ys) zs
    (Includes-both xs ys (Includes-right ys (xs ++ zs) (Includes-left xs zs Includes-itself)) (Includes-left ys (xs ++ zs) Includes-itself))
    (Includes-right ys (xs ++ zs) (Includes-right xs zs Includes-itself))

pub Includes-shifted_back : (xs ys zs : List ℕ) → Includes ((xs ++ ys) ++ zs) (ys ++ (xs ++ zs))
Includes-shifted_back xs ys zs =
    Includes-both ys (xs ++ zs) (Includes-left (xs ++ ys) zs (Includes-right xs ys Includes-itself))
    (Includes-both xs zs (Includes-left (xs ++ ys) zs (Includes-left xs ys Includes-itself)) (Includes-right (xs ++ ys) zs Includes-itself))

pub AreSame-itself : {xs : List ℕ} → AreSame xs xs
AreSame-itself = record { there = Includes-itself; back = Includes-itself }

pub AreSame-turned : {xs ys : List ℕ} → AreSame xs ys → AreSame ys xs
AreSame-turned so = record { there = so.back; back = so.there }

pub AreSame-chain : {xs ys zs : List ℕ} → AreSame xs ys → AreSame ys zs → AreSame xs zs
AreSame-chain first second = record { there = Includes-chain first.there second.there; back = Includes-chain second.back first.back }

pub AreSame-joined : (xs : List ℕ) {ys zs : List ℕ} → AreSame ys zs → AreSame (xs ++ ys) (xs ++ zs)
AreSame-joined xs {ys = ys} {zs = zs} so = record {
  there = Includes-joined xs xs zs ys Includes-itself so.there;
  back = Includes-joined xs xs ys zs Includes-itself so.back;
}

-- one element between two lists, in another order
pub AreSame-shifted : (xs ys zs : List ℕ) → AreSame (ys ++ (xs ++ zs)) ((xs ++ ys) ++ zs)
AreSame-shifted xs ys zs = record { there = Includes-shifted xs ys zs; back = Includes-shifted_back xs ys zs }

pub Contains-one : (y x : ℕ) → Contains (y ∷ []) x → y ≡ x
Contains-one y x c = go c.0 c.1 c.2
  where
    go : (k : ℕ) → k < 1 → slice_index_or (y ∷ []) k x ≡ x → y ≡ x
    go zero h e = e
    go (suc k) h e = absurd (omega (arith, h))
