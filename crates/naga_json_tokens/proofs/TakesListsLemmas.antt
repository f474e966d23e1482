-- Lists that are taken item by item.
use Rattle.std.proofs.Common.{◌≡◌, ◌<◌, ◌∙◌, sym, ap, refl, arith, List, [], ◌∷◌, ◌++◌, Option, Some, None, length, map, subst}
use Rattle.std.proofs.lemmas.List.{map-append}
use Rattle.json.specs.Json.{Json, null, boolean, number, string, array, object, Items, no_items, item, Members, no_members, member, after_end_array}
use Rattle.json.specs.Token.{Token}
use Rattle.json.proofs.Grammar.{closed_array}
use Rattle.naga_json.specs.Lists.{each_in, each_of, items_of}
use Rattle.naga_json.specs.Numbers.{◌>>=◌}
use Rattle.naga_json_tokens.specs.Takes.{Takes, json_before, items_before, members_before}
use Rattle.naga_json_tokens.proofs.TakesItems.{TakesItems, list_before}

-- ---- a list of four

pub takes_four_items : {A V : Type 0} (m : Json → Option A) (a b c d : A) (meaning : Json → Option V) (v : V) (old o1 o2 o3 o4 o5 new : List Token)
    → old ≡ Token.begin_array ∷ o1 → Takes m a o1 o2 → Takes m b o2 o3 → Takes m c o3 o4 → Takes m d o4 o5 → o5 ≡ Token.end_array ∷ new
    → ((j1 j2 j3 j4 : Json) → m j1 ≡ Some a → m j2 ≡ Some b → m j3 ≡ Some c → m j4 ≡ Some d → meaning (array (item j1 (item j2 (item j3 (item j4 no_items))))) ≡ Some v)
    → Takes meaning v old new
takes_four_items m a b c d meaning v old o1 o2 o3 o4 o5 new begun f1 f2 f3 f4 ended means = record {
  json = array (item f1.json (item f2.json (item f3.json (item f4.json no_items))));
  tokens = begun ∙ ap (λ ts. Token.begin_array ∷ ts) (f1.tokens ∙ ap (json_before f1.json) (f2.tokens ∙ ap (json_before f2.json) (f3.tokens ∙ ap (json_before f3.json) (f4.tokens ∙ ap (json_before f4.json) ended))));
  means = means f1.json f2.json f3.json f4.json f1.means f2.means f3.means f4.means;
}

-- ---- a list of any length

pub list_before-push : (js : List Json) (j : Json) (rest : List Token) → list_before (js ++ j ∷ []) rest ≡ list_before js (json_before j rest)
list_before-push [] j rest = refl
list_before-push (first ∷ js) j rest = ap (json_before first) (list_before-push js j rest)

pub list_before-end : (js : List Json) (rest : List Token) → list_before js (Token.end_array ∷ rest) ≡ items_before (items_of js) rest
list_before-end [] rest = refl
list_before-end (first ∷ js) rest = ap (json_before first) (list_before-end js rest)

module _ {A : Type 0} (m : Json → Option A) where
  joined : (a : A) (o : Option (List A)) (vs : List A) (more : Option (List A)) (v : A) → (o >>= λ rest. Some (a ∷ rest)) ≡ Some vs → ((us : List A) → o ≡ Some us → more ≡ Some (us ++ v ∷ []))
      → (more >>= λ rest. Some (a ∷ rest)) ≡ Some (vs ++ v ∷ [])
  joined a None vs more v is again = absurd (cc)
  joined a (Some us) vs more v is again = rw (again us refl) (cc)

  pushed : (o : Option A) (js : List Json) (vs : List A) (j : Json) (v : A) → (o >>= λ a. each_of m (items_of js) >>= λ rest. Some (a ∷ rest)) ≡ Some vs → m j ≡ Some v
      → ((us : List A) → each_of m (items_of js) ≡ Some us → each_of m (items_of (js ++ j ∷ [])) ≡ Some (us ++ v ∷ []))
      → (o >>= λ a. each_of m (items_of (js ++ j ∷ [])) >>= λ rest. Some (a ∷ rest)) ≡ Some (vs ++ v ∷ [])
  pushed None js vs j v is means again = absurd (cc)
  pushed (Some a) js vs j v is means again = joined a (each_of m (items_of js)) vs _ v is again

  each_of-push : (js : List Json) (vs : List A) (j : Json) (v : A) → each_of m (items_of js) ≡ Some vs → m j ≡ Some v → each_of m (items_of (js ++ j ∷ [])) ≡ Some (vs ++ v ∷ [])
  each_of-push [] [] j v is means = rw means refl
  each_of-push [] (u ∷ us) j v is means = absurd (cc)
  each_of-push (first ∷ js) vs j v is means = pushed (m first) js vs j v is means (λ us again. each_of-push js us j v again means)

pub takes_more_items : {A : Type 0} (m : Json → Option A) (vs : List A) (v : A) (old middle new : List Token) → TakesItems m vs old middle → Takes m v middle new → TakesItems m (vs ++ v ∷ []) old new
takes_more_items m vs v old middle new all one = record {
  jsons = all.jsons ++ one.json ∷ [];
  tokens = all.tokens ∙ ap (list_before all.jsons) one.tokens ∙ sym (list_before-push all.jsons one.json new);
  means = each_of-push m all.jsons vs one.json v all.means one.means;
}

-- one more item, as `view` sees it
pub takes_more_viewed : {X A : Type 0} (view : X → A) (m : Json → Option A) (xs grown : List X) (x : X) (old middle new : List Token) → TakesItems m (map view xs) old middle → Takes m (view x) middle new → grown ≡ xs ++ x ∷ []
    → TakesItems m (map view grown) old new
takes_more_viewed view m xs grown x old middle new all one is =
    let longer : map view grown ≡ map view xs ++ view x ∷ [] = ap (map view) is ∙ map-append view xs (x ∷ []) in
    subst (λ values. TakesItems m values old new) (sym longer) (takes_more_items m (map view xs) (view x) old middle new all one)

-- what a list means, with its beginning and its end
pub takes_list_as : {A V : Type 0} (m : Json → Option A) (vs : List A) (meaning : Json → Option V) (v : V) (old first middle new : List Token) → old ≡ Token.begin_array ∷ first → (all : TakesItems m vs first middle) → after_end_array middle ≡ Some new
    → meaning (array (items_of all.jsons)) ≡ Some v → Takes meaning v old new
takes_list_as m vs meaning v old first middle new begun all ended means = record {
  json = array (items_of all.jsons);
  tokens =
      begun
      ∙ ap (λ ts. Token.begin_array ∷ ts)
      (all.tokens ∙ ap (list_before all.jsons) (closed_array middle new ended) ∙ list_before-end all.jsons new);
  means = means;
}

-- a list, with its beginning and its end
pub takes_list : {A : Type 0} (m : Json → Option A) (vs : List A) (old first middle new : List Token) → old ≡ Token.begin_array ∷ first → TakesItems m vs first middle → after_end_array middle ≡ Some new
    → Takes (each_in m) vs old new
takes_list m vs old first middle new begun all ended = takes_list_as m vs (each_in m) vs old first middle new begun all ended all.means

-- ---- what is taken is not empty

mutual
  json_before-longer : (j : Json) (rest : List Token) → length rest < length (json_before j rest)
  json_before-longer null rest = omega arith
  json_before-longer (boolean b) rest = omega arith
  json_before-longer (number text) rest = omega arith
  json_before-longer (string text) rest = omega arith
  json_before-longer (array js) rest = omega (arith, items_before-longer js rest)
  json_before-longer (object ms) rest = omega (arith, members_before-longer ms rest)

  items_before-longer : (js : Items) (rest : List Token) → length rest < length (items_before js rest)
  items_before-longer no_items rest = omega arith
  items_before-longer (item j js) rest = omega (arith, json_before-longer j (items_before js rest), items_before-longer js rest)

  members_before-longer : (ms : Members) (rest : List Token) → length rest < length (members_before ms rest)
  members_before-longer no_members rest = omega arith
  members_before-longer (member name j ms) rest = omega (arith, json_before-longer j (members_before ms rest), members_before-longer ms rest)

pub takes_shorter : {A : Type 0} (m : Json → Option A) (v : A) (old new : List Token) → Takes m v old new → length new < length old
takes_shorter m v old new taken = omega (arith, ap length taken.tokens, json_before-longer taken.json new)
