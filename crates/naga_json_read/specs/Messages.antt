-- The messages of errors of readers.
use Rattle.std.specs.Prelude.{ℕ, List, ◌++◌, codes}
use Rattle.std.specs.Fmt.{decimal}
use Rattle.naga_json_read.specs.declared.read_error.ReadError.{ReadError}
use Rattle.naga_json_read.specs.declared.read_error.ReadError.TheVariants as read
use Rattle.naga_json_values.specs.Messages.{cause_text}
use Rattle.naga_valid.specs.Messages.{invalid_handle_text}

-- why a text was not read as a module
abbrev pub read_error_text : ReadError → List ℕ
read_error_text read.Memory = codes "out of memory"
read_error_text (read.Text offset) = codes "invalid JSON at byte " ++ decimal offset
read_error_text (read.Value reason) = cause_text reason
read_error_text (read.Handle invalid) = invalid_handle_text invalid
