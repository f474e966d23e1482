-- The texts of the types of images and samplers.
use Rattle.std.specs.Prelude.{ℕ, List, ◌++◌, Bool, true, false, Option, Some, None, Result, Ok, Err, codes, if◌then◌else◌, ◌==◌}
use Rattle.naga_kinds.specs.declared.flags.StorageAccess.{StorageAccess}
use Rattle.naga_kinds.specs.declared.format.StorageFormat.{StorageFormat}
use Rattle.naga_kinds.specs.declared.format.StorageFormat.TheVariants as format
use Rattle.naga_kinds.specs.declared.image.ImageClass.{ImageClass}
use Rattle.naga_kinds.specs.declared.image.ImageClass.TheVariants as class
use Rattle.naga_kinds.specs.declared.image.ImageDimension.{ImageDimension}
use Rattle.naga_kinds.specs.declared.image.ImageDimension.TheVariants.{D1, D2, D3, Cube}
use Rattle.naga_kinds.specs.declared.scalar.ScalarKind.{ScalarKind}
use Rattle.naga_kinds.specs.declared.scalar.ScalarKind.TheVariants as kind
use Rattle.naga_wgsl.specs.declared.write_error.Cause.{Cause}
use Rattle.naga_wgsl.specs.declared.write_error.Cause.TheVariants as cause
use Rattle.naga_wgsl.specs.Types.{name_or}

-- ---- the names of images of each class, by their dimension, and by whether they have array layers

abbrev pub sampled_name : ImageDimension → (arrayed : Bool) → Option (List ℕ)
sampled_name D1 false = Some (codes "texture_1d")
sampled_name D1 true = None
sampled_name D2 false = Some (codes "texture_2d")
sampled_name D2 true = Some (codes "texture_2d_array")
sampled_name D3 false = Some (codes "texture_3d")
sampled_name D3 true = None
sampled_name Cube false = Some (codes "texture_cube")
sampled_name Cube true = Some (codes "texture_cube_array")

abbrev pub multisampled_name : ImageDimension → (arrayed : Bool) → Option (List ℕ)
multisampled_name D2 false = Some (codes "texture_multisampled_2d")
multisampled_name _ arrayed = None

abbrev pub depth_name : ImageDimension → (arrayed : Bool) → Option (List ℕ)
depth_name D2 false = Some (codes "texture_depth_2d")
depth_name D2 true = Some (codes "texture_depth_2d_array")
depth_name Cube false = Some (codes "texture_depth_cube")
depth_name Cube true = Some (codes "texture_depth_cube_array")
depth_name _ arrayed = None

abbrev pub multisampled_depth_name : ImageDimension → (arrayed : Bool) → Option (List ℕ)
multisampled_depth_name D2 false = Some (codes "texture_depth_multisampled_2d")
multisampled_depth_name _ arrayed = None

abbrev pub external_name : ImageDimension → (arrayed : Bool) → Option (List ℕ)
external_name D2 false = Some (codes "texture_external")
external_name _ arrayed = None

abbrev pub storage_name : ImageDimension → (arrayed : Bool) → Option (List ℕ)
storage_name D1 false = Some (codes "texture_storage_1d")
storage_name D2 false = Some (codes "texture_storage_2d")
storage_name D2 true = Some (codes "texture_storage_2d_array")
storage_name D3 false = Some (codes "texture_storage_3d")
storage_name _ arrayed = None

-- ---- texels

-- the type of a component of a texel that is sampled
abbrev pub texel_name : ScalarKind → Option (List ℕ)
texel_name kind.Sint = Some (codes "i32")
texel_name kind.Uint = Some (codes "u32")
texel_name kind.Float = Some (codes "f32")
texel_name _ = None

-- the format of a texel that is stored
abbrev pub format_name : StorageFormat → Option (List ℕ)
format_name format.R32Uint = Some (codes "r32uint")
format_name format.R32Sint = Some (codes "r32sint")
format_name format.R32Float = Some (codes "r32float")
format_name format.Rgba8Unorm = Some (codes "rgba8unorm")
format_name format.Rgba8Snorm = Some (codes "rgba8snorm")
format_name format.Rgba8Uint = Some (codes "rgba8uint")
format_name format.Rgba8Sint = Some (codes "rgba8sint")
format_name format.Bgra8Unorm = Some (codes "bgra8unorm")
format_name format.Rg32Uint = Some (codes "rg32uint")
format_name format.Rg32Sint = Some (codes "rg32sint")
format_name format.Rg32Float = Some (codes "rg32float")
format_name format.Rgba16Uint = Some (codes "rgba16uint")
format_name format.Rgba16Sint = Some (codes "rgba16sint")
format_name format.Rgba16Float = Some (codes "rgba16float")
format_name format.Rgba32Uint = Some (codes "rgba32uint")
format_name format.Rgba32Sint = Some (codes "rgba32sint")
format_name format.Rgba32Float = Some (codes "rgba32float")
format_name _ = None

-- the mode of the accesses to a storage image, by their bits, if WGSL has one
abbrev pub image_access_name : StorageAccess → Option (List ℕ)
image_access_name access =
    if access.0 == 1 then Some (codes "read") else
    if access.0 == 2 then Some (codes "write") else
    if access.0 == 3 then Some (codes "read_write") else None

-- ---- images

-- a name with the type of a component in angle brackets, if there are both
abbrev pub sampled_text : (name texel : Option (List ℕ)) → Result (List ℕ) Cause
sampled_text None texel = Err cause.Image
sampled_text (Some name) None = Err cause.Image
sampled_text (Some name) (Some texel) = Ok (name ++ (codes "<" ++ (texel ++ codes ">")))

-- a name with a format and a mode in angle brackets, if there are all
abbrev pub storage_image_text : (name format access : Option (List ℕ)) → Result (List ℕ) Cause
storage_image_text None format access = Err cause.Image
storage_image_text (Some name) None access = Err cause.Format
storage_image_text (Some name) (Some format) None = Err cause.ImageAccess
storage_image_text (Some name) (Some format) (Some access) =
    Ok (name ++ (codes "<" ++ (format ++ (codes ", " ++ (access ++ codes ">")))))

-- an image, or why WGSL has none
abbrev pub image_text : ImageDimension → (arrayed : Bool) → ImageClass → Result (List ℕ) Cause
image_text dim arrayed (class.Sampled kind multi) =
    sampled_text (if multi then multisampled_name dim arrayed else sampled_name dim arrayed) (texel_name kind)
image_text dim arrayed (class.Depth multi) =
    name_or cause.Image (if multi then multisampled_depth_name dim arrayed else depth_name dim arrayed)
image_text dim arrayed class.External = name_or cause.Image (external_name dim arrayed)
image_text dim arrayed (class.Storage format access) =
    storage_image_text (storage_name dim arrayed) (format_name format) (image_access_name access)

-- a sampler, which compares depths or not
abbrev pub sampler_text : (comparison : Bool) → List ℕ
sampler_text true = codes "sampler_comparison"
sampler_text false = codes "sampler"
