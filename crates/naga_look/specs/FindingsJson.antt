-- The JSON of findings.
use Rattle.std.specs.Prelude.{ℕ, List, [], ◌∷◌, ◌++◌, codes}
use Rattle.std.specs.Fmt.{decimal}
use Rattle.json.specs.Json.{Json, number, string}
use Rattle.naga_flow.specs.declared.bodies.BodyOwner.{BodyOwner}
use Rattle.naga_flow.specs.declared.bodies.BodyOwner.TheVariants.{EntryPoint, Function}
use Rattle.naga_json.specs.Lists.{list_json}
use Rattle.naga_json.specs.Objects.{optional_json}
use Rattle.naga_json_write.specs.Objects.{fields_json}
use Rattle.naga_typing.specs.declared.initial.Initialized.{Initialized}
use Rattle.naga_typing.specs.declared.initial.Initialized.TheVariants as initial
use Rattle.naga_look.specs.declared.finding.Finding.{Finding}
use Rattle.naga_look.specs.declared.finding.FindingKind.{FindingKind}
use Rattle.naga_look.specs.declared.finding.FindingKind.TheVariants.{Fault, Layout, Emit, Return, Access}
use Rattle.naga_look.specs.declared.finding.FindingOwner.{FindingOwner}
use Rattle.naga_look.specs.declared.finding.FindingOwner.TheVariants.{GlobalExpression, Declaration, Body}
use Rattle.naga_look.specs.declared.finding.FindingOwner.TheVariants as owner

-- the word of a kind
abbrev pub kind_word : FindingKind → List ℕ
kind_word Fault = codes "fault"
kind_word Layout = codes "layout"
kind_word Emit = codes "emit"
kind_word Return = codes "return"
kind_word Access = codes "access"

-- the words of what a finding is in
abbrev pub owner_word : FindingOwner → List ℕ
owner_word (GlobalExpression handle) = codes "global expression"
owner_word (Declaration (initial.Constant handle)) = codes "constant"
owner_word (Declaration (initial.Override handle)) = codes "override"
owner_word (Declaration (initial.GlobalVariable handle)) = codes "global variable"
owner_word (Declaration (initial.LocalVariable handle)) = codes "local variable"
owner_word (owner.«Type» handle) = codes "type"
owner_word (Body (Function handle)) = codes "function"
owner_word (Body (EntryPoint position)) = codes "entry point"

-- the index of a declaration
abbrev pub declared_index : Initialized → ℕ
declared_index (initial.Constant handle) = handle
declared_index (initial.Override handle) = handle
declared_index (initial.GlobalVariable handle) = handle
declared_index (initial.LocalVariable handle) = handle

-- the position of a function or of an entry point
abbrev pub body_index : BodyOwner → ℕ
body_index (Function handle) = handle
body_index (EntryPoint position) = position

-- the position of what a finding is in
abbrev pub owner_index : FindingOwner → ℕ
owner_index (GlobalExpression handle) = handle
owner_index (Declaration declared) = declared_index declared
owner_index (owner.«Type» handle) = handle
owner_index (Body body) = body_index body

-- the index of an expression
abbrev pub handle_json : ℕ → Json
handle_json handle = number (decimal handle)

-- the members that say what a finding is and what it is in
abbrev pub owner_fields : Finding → List (List ℕ × Json)
owner_fields finding =
    (codes "kind", string (kind_word finding.kind))
    ∷ (codes "owner", string (owner_word finding.owner))
    ∷ (codes "index", number (decimal (owner_index finding.owner)))
    ∷ (codes "name", optional_json string finding.name) ∷ []

-- the members that say where a finding is, and what is found
abbrev pub rest_fields : Finding → List (List ℕ × Json)
rest_fields finding =
    (codes "path", optional_json string finding.path)
    ∷ (codes "expression", optional_json handle_json finding.expression)
    ∷ (codes "message", string finding.message) ∷ []

-- a finding
abbrev pub finding_json : Finding → Json
finding_json finding = fields_json (owner_fields finding ++ rest_fields finding)

-- all findings
abbrev pub findings_json : List Finding → Json
findings_json found = list_json finding_json found
