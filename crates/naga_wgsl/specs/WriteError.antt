-- What writing a text returns.
use Rattle.std.specs.Prelude.{◌≡◌, ◌⊎◌, ℕ, List, ◌++◌, Result, Ok, Err, IfOk, IfErr, MatchResult, codes}
use Rattle.naga_wgsl.specs.declared.write_error.Cause.{Cause}
use Rattle.naga_wgsl.specs.declared.write_error.Cause.TheVariants as cause
use Rattle.naga_wgsl.specs.declared.write_error.WriteError.{WriteError}
use Rattle.naga_wgsl.specs.declared.write_error.WriteError.TheVariants.{Memory, Inexpressible}

-- If there is a text, it is appended, unless an allocation fails. Otherwise the error has its cause, and nothing is
-- appended.
abbrev pub Writes : {A : Type 0} → Result (List ℕ) Cause → (old new : List ℕ) → Result A WriteError → Type 0
Writes (Ok text) old new result = MatchResult result (λ _. new ≡ old ++ text) (λ error. error ≡ Memory)
Writes (Err cause) old new result = (result ≡ Err (Inexpressible cause)) × (new ≡ old)

-- An attempt to append a text of several parts. If it succeeds, the text is appended. Otherwise an allocation failed, or there
-- is no text and the error has the cause; a part may then have been appended.
pub record Attempts {A : Type 0} (wanted : Result (List ℕ) Cause) (old new : List ℕ) (result : Result A WriteError) : Type 0 where
  pub written : IfOk result (λ _. (text : List ℕ) × (wanted ≡ Ok text) × (new ≡ old ++ text))
  pub stopped : IfErr result (λ error. (error ≡ Memory) ⊎ ((cause : Cause) × (error ≡ Inexpressible cause) × (wanted ≡ Err cause)))

-- the message of a cause
abbrev pub cause_text : Cause → List ℕ
cause_text cause.Scalar = codes "WGSL has no scalar of this type"
cause_text cause.NotFinite = codes "WGSL has no literal of a NaN or an infinity"
cause_text cause.Matrix = codes "WGSL has no matrix of this type"
cause_text cause.Atomic = codes "WGSL has no atomic of this type"
cause_text cause.AddressSpace = codes "WGSL has no such use of this address space"
cause_text cause.Access = codes "WGSL has no such access to a buffer"
cause_text cause.Stride = codes "WGSL has no array of this stride"
cause_text cause.OverrideSize = codes "the number of elements of an array is an override"
cause_text cause.CooperativeMatrix = codes "WGSL has no cooperative matrices"
cause_text cause.RayTracing = codes "WGSL has no types for tracing rays"
cause_text cause.BindingArray = codes "WGSL has no arrays of resources"
cause_text cause.Image = codes "WGSL has no image of this dimension and class"
cause_text cause.Format = codes "WGSL has no storage image of this format"
cause_text cause.ImageAccess = codes "WGSL has no such access to an image"
cause_text cause.Order = codes "a type or an expression refers to one that does not come before it"
cause_text cause.Layout = codes "a type has no layout"
cause_text cause.Name = codes "a declaration has no name"
cause_text cause.Binding = codes "WGSL has no such binding"
cause_text cause.Empty = codes "a structure has no members"
cause_text cause.Offset = codes "WGSL has no structure with these offsets"
cause_text cause.Decorations = codes "WGSL has no memory decorations"
cause_text cause.Function = codes "WGSL has no such function"
cause_text cause.Cast = codes "WGSL has no such conversion"
cause_text cause.Part = codes "an operand has no part with this index"
cause_text cause.Unnamed = codes "the result of a statement has no name"
cause_text cause.ImageUse = codes "expressions that use images are not written yet"

-- the message of an error
abbrev pub write_error_text : WriteError → List ℕ
write_error_text Memory = codes "out of memory"
write_error_text (Inexpressible cause) = cause_text cause
