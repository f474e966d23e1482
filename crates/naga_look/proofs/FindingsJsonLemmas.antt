-- The JSON of findings: lemmas on specs/FindingsJson.antt.
use Rattle.std.proofs.Common.{◌≡◌, ◌∙◌, ap, sym, ℕ, List, [], ◌∷◌, ◌++◌, Option}
use Rattle.std.specs.Fmt.{decimal}
use Rattle.std.specs.Prelude.{OnOk, Result, Ok, Err, codes}
use Rattle.json.specs.Json.{number, string}
use Rattle.json.specs.Token.{Token}
use Rattle.naga_json.specs.Objects.{optional_json}
use Rattle.naga_json_write.specs.Appends.{append_fields, append_json}
use Rattle.naga_json_write.proofs.AppendsLemmas.{append_object}
use Rattle.naga_look.specs.FindingsJson.{finding_json, handle_json, kind_word, owner_fields, owner_index, owner_word, rest_fields}
use Rattle.naga_look.specs.declared.finding.Finding.{Finding}

-- the tokens `front`, and after them a member
abbrev pub then_string : List Token → (name text : List ℕ) → List Token
then_string front name text = append_json (front ++ Token.key name ∷ []) (string text)

abbrev pub then_number : List Token → (name : List ℕ) → ℕ → List Token
then_number front name value = append_json (front ++ Token.key name ∷ []) (number (decimal value))

abbrev pub then_text : List Token → (name : List ℕ) → Option (List ℕ) → List Token
then_text front name text = append_json (front ++ Token.key name ∷ []) (optional_json string text)

abbrev pub then_handle : List Token → (name : List ℕ) → Option ℕ → List Token
then_handle front name handle = append_json (front ++ Token.key name ∷ []) (optional_json handle_json handle)

OnOk-mapped : {T E : Type 0} {P Q : Type 0} (r : Result T E) → OnOk r P → (P → Q) → OnOk r Q
OnOk-mapped (Ok value) holds f = f holds
OnOk-mapped (Err error) holds f = tt

module _ {T E : Type 0} (r : Result T E) (finding : Finding) where
  -- what a finding is in
  pub owner-appended : (kind owner : List ℕ) (index : ℕ) (start first second third last : List Token)
      → kind ≡ kind_word finding.kind → owner ≡ owner_word finding.owner → index ≡ owner_index finding.owner
      → first ≡ then_string start (codes "kind") kind → second ≡ then_string first (codes "owner") owner
      → third ≡ then_number second (codes "index") index → OnOk r (last ≡ then_text third (codes "name") finding.name)
      → OnOk r (last ≡ append_fields start (owner_fields finding))
  owner-appended kind owner index start first second third last is_kind is_owner is_index at_first at_second at_third at_last =
      let one = at_first ∙ ap (then_string start (codes "kind")) is_kind in
      let two = at_second ∙ (λ i. then_string (one i) (codes "owner") (is_owner i)) in
      let three = at_third ∙ (λ i. then_number (two i) (codes "index") (is_index i)) in
      OnOk-mapped r at_last (λ is. is ∙ ap (λ front. then_text front (codes "name") finding.name) three)

  -- where a finding is, and what is found
  pub rest-appended : (message : List ℕ) (start first second last : List Token) → message ≡ finding.message
      → first ≡ then_text start (codes "path") finding.path → second ≡ then_handle first (codes "expression") finding.expression
      → OnOk r (last ≡ then_string second (codes "message") message)
      → OnOk r (last ≡ append_fields start (rest_fields finding))
  rest-appended message start first second last is at_first at_second at_last =
      let two = at_second ∙ ap (λ front. then_handle front (codes "expression") finding.expression) at_first in
      OnOk-mapped r at_last (λ at. at ∙ (λ i. then_string (two i) (codes "message") (is i)))

  -- a whole finding
  pub finding-appended : (start first second third last : List Token) → first ≡ start ++ Token.begin_object ∷ []
      → second ≡ append_fields first (owner_fields finding) → third ≡ append_fields second (rest_fields finding)
      → OnOk r (last ≡ third ++ Token.end_object ∷ []) → OnOk r (last ≡ append_json start (finding_json finding))
  finding-appended start first second third last at_first at_second at_third at_last =
      let fields = owner_fields finding ++ rest_fields finding in
      let three : third ≡ append_fields (start ++ Token.begin_object ∷ []) fields =
      at_third ∙ ap (λ front. append_fields front (rest_fields finding)) (at_second ∙ ap (λ front. append_fields front (owner_fields finding)) at_first) in
      OnOk-mapped r at_last (λ at. at ∙ ap (λ front. front ++ Token.end_object ∷ []) three ∙ sym (append_object (start ++ Token.begin_object ∷ []) fields))
