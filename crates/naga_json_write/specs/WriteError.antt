-- Errors of writers.
use Rattle.std.specs.Prelude.{ℕ, List, codes}
use Rattle.naga_json_write.specs.declared.write_error.TryWriteError.{TryWriteError}
use Rattle.naga_json_write.specs.declared.write_error.TryWriteError.TheVariants as value
use Rattle.naga_json_write.specs.declared.write_error.WriteError.{WriteError}
use Rattle.naga_json_write.specs.declared.write_error.WriteError.TheVariants.{Memory, NotFinite, PredeclaredTypes, MemberComments, TooDeep}

-- the error of a module with a value that was not written
abbrev pub error_of_value : TryWriteError → WriteError
error_of_value value.Memory = Memory
error_of_value value.NotFinite = NotFinite

-- the message of an error
abbrev pub write_error_text : WriteError → List ℕ
write_error_text Memory = codes "out of memory"
write_error_text NotFinite = codes "a literal is not finite"
write_error_text PredeclaredTypes = codes "types of the results of built-in functions have no JSON"
write_error_text MemberComments = codes "comments on members of structures have no JSON"
write_error_text TooDeep = codes "the JSON is nested too deep"
