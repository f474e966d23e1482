-- The messages for texts that were not read as modules.
use Rattle.std.specs.Prelude.{◌≡◌, ℕ, List, [], ◌++◌, Option, Some, None, IfSome, codes, option_and_then, slice_get}
use Rattle.std.specs.Fmt.{◌++?◌, decimal}
use Rattle.json_fault.specs.Messages.{reason_text}
use Rattle.naga_flow.specs.Paths.{path_text}
use Rattle.naga_ir.specs.View.{tree_of}
use Rattle.naga_ir.specs.declared.module.Function as function
use Rattle.naga_ir.specs.declared.module.Module as the_module
use Rattle.naga_json_read.specs.Messages.{read_error_text}
use Rattle.naga_json_read.specs.declared.read_error.ReadError.{ReadError}
use Rattle.naga_schema.specs.Messages.{found_text}
use Rattle.naga_schema.specs.Path.{found_of}
use Rattle.naga_valid.specs.ElementNames.{name_found}
use Rattle.naga_valid.specs.Faults.{place_of_fault}
use Rattle.naga_valid.specs.Messages.{function_of_place, invalid_text, name_inside, name_text, named_element_text, named_place_text, reference_text}
use Rattle.naga_valid.specs.declared.place.Part.TheVariants as part
use Rattle.naga_valid.specs.declared.place.Place.{Place}
use Rattle.naga_valid.specs.declared.place.Place.TheVariants as place
use Rattle.naga_explain.specs.Explains.{Explains}
use Rattle.naga_explain.specs.declared.explanation.Explanation.{Explanation}
use Rattle.naga_explain.specs.declared.explanation.Explanation.TheVariants.{Text, Value, Handle, Error}
use Rattle.naga_explain.specs.declared.item.Item.{Item}
use Rattle.naga_explain.specs.declared.item.Item.TheVariants as item
use Rattle.naga_explain.specs.declared.position.Position.{Position}

-- a place: its byte, its line and its column
abbrev pub position_text : Position → List ℕ
position_text position =
    codes "byte " ++ decimal position.byte ++ codes ", line " ++ decimal position.line ++ codes ", column " ++ decimal position.column

-- ---- handles

-- the function or the entry point that contains a place, with its name
abbrev pub owner_text : the_module.Module → Place → Option (List ℕ)
owner_text whole (place.Function handle inner) = named_element_text whole (place.Function handle inner) ++? Some (codes ", ")
owner_text whole (place.EntryPointFunction position inner) =
    named_element_text whole (place.EntryPointFunction position inner) ++? Some (codes ", ")
owner_text whole _ = Some []

-- the name of the argument at a position, if the argument is there and has a name
abbrev pub name_of_argument : Option function.Function → ℕ → Option (List ℕ)
name_of_argument whole position =
    option_and_then (λ inside. name_found (λ argument. argument.name) (slice_get inside.arguments.items position)) whole

-- the path to a statement of a function, or the body if the function is not there
abbrev pub statement_text : Option function.Function → ℕ → List ℕ
statement_text None number = codes "body"
statement_text (Some inside) number = path_text (tree_of inside.body) number

-- an item, of a function if it is one of a function
abbrev pub item_text : Option function.Function → Item → Option (List ℕ)
item_text whole (item.Statement number) = Some (statement_text whole number)
item_text whole (item.Argument position) = Some (codes "argument " ++ decimal position) ++? name_text (name_of_argument whole position)
item_text whole (item.NamedExpression handle) =
    Some (codes "named expression " ++ decimal handle) ++? name_text (name_inside whole (part.Expression handle))
item_text whole (item.Comment reference) = Some (codes "doc comment on " ++ reference_text reference)

-- a place with its names, and with an item of it if there is one
abbrev pub located_text : the_module.Module → Place → Option Item → Option (List ℕ)
located_text whole at None = named_place_text whole at
located_text whole at (Some item) = owner_text whole at ++? item_text (function_of_place whole at) item

-- ---- explanations

-- The text of an explanation: of a text that is not JSON the place of the fault, and the fault; of a JSON the path of its
-- fault, and the fault; of a handle that is not valid its place and what is wrong with it; and of another error its message.
abbrev pub explanation_text : Explanation → Option (List ℕ)
explanation_text (Text fault position) = Some (codes "invalid JSON at " ++ position_text position ++ codes ": " ++ reason_text fault)
explanation_text (Value fault) = found_text (found_of fault)
explanation_text (Handle invalid item whole) =
    located_text whole (place_of_fault invalid) item ++? Some (codes ": " ++ invalid_text invalid)
explanation_text (Error error) = Some (read_error_text error)

-- The message is the text of what is to be said of a text with this error, in a file that has this many bytes before the
-- text.
pub record IsMessage (text : List ℕ) (skipped : ℕ) (error : ReadError) (message : List ℕ) : Type 0 where
  pub explanation : Explanation
  pub explains : Explains text skipped error explanation
  pub shown : IfSome (explanation_text explanation) (λ known. message ≡ known)
