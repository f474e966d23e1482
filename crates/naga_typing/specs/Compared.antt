-- What a type is known by when it is compared.
use Rattle.std.specs.Prelude.{ℕ, Option}
use Rattle.naga_ir.specs.Types.{inner_of}
use Rattle.naga_ir.specs.declared.types.TypeInner.{TypeInner}
use Rattle.naga_typing.specs.Forms.{Form, contents, contents_form, declared}
use Rattle.naga_typing.specs.declared.form.Form as code
use Rattle.naga_typing.specs.declared.form.Form.TheVariants as known_by

-- the form of a type that is known by this
abbrev pub form_in : (types : ℕ → Option TypeInner) → code.Form → Form
form_in types (known_by.Declared ty) = declared ty
form_in types (known_by.Contents what) = contents (inner_of (contents_form types what.now))
