-- The texts of the attributes that bind inputs and outputs of entry points.
use Rattle.std.specs.Prelude.{ℕ, List, [], ◌++◌, Bool, true, false, Option, Some, None, Result, Ok, Err, codes}
use Rattle.std.specs.Fmt.{decimal}
use Rattle.naga_kinds.specs.declared.binding.Binding.{Binding}
use Rattle.naga_kinds.specs.declared.binding.Binding.TheVariants as binding
use Rattle.naga_kinds.specs.declared.binding.Interpolation.{Interpolation}
use Rattle.naga_kinds.specs.declared.binding.Interpolation.TheVariants as interpolation
use Rattle.naga_kinds.specs.declared.binding.Sampling.{Sampling}
use Rattle.naga_kinds.specs.declared.binding.Sampling.TheVariants as sampling
use Rattle.naga_kinds.specs.declared.builtin.BuiltIn.{BuiltIn}
use Rattle.naga_kinds.specs.declared.builtin.BuiltIn.TheVariants as built_in
use Rattle.naga_wgsl.specs.Operations.{followed}
use Rattle.naga_wgsl.specs.Types.{name_or}
use Rattle.naga_wgsl.specs.declared.write_error.Cause.{Cause}
use Rattle.naga_wgsl.specs.declared.write_error.Cause.TheVariants as cause

-- the attributes of a built-in value, each with a space after it, if WGSL has it
abbrev pub built_in_text : BuiltIn → Option (List ℕ)
built_in_text (built_in.Position false) = Some (codes "@builtin(position) ")
built_in_text (built_in.Position true) = Some (codes "@builtin(position) @invariant ")
built_in_text built_in.PrimitiveIndex = Some (codes "@builtin(primitive_index) ")
built_in_text built_in.ClipDistances = Some (codes "@builtin(clip_distances) ")
built_in_text built_in.InstanceIndex = Some (codes "@builtin(instance_index) ")
built_in_text built_in.VertexIndex = Some (codes "@builtin(vertex_index) ")
built_in_text built_in.FragDepth = Some (codes "@builtin(frag_depth) ")
built_in_text built_in.FrontFacing = Some (codes "@builtin(front_facing) ")
built_in_text built_in.SampleIndex = Some (codes "@builtin(sample_index) ")
built_in_text built_in.SampleMask = Some (codes "@builtin(sample_mask) ")
built_in_text built_in.GlobalInvocationId = Some (codes "@builtin(global_invocation_id) ")
built_in_text built_in.LocalInvocationId = Some (codes "@builtin(local_invocation_id) ")
built_in_text built_in.LocalInvocationIndex = Some (codes "@builtin(local_invocation_index) ")
built_in_text built_in.WorkGroupId = Some (codes "@builtin(workgroup_id) ")
built_in_text built_in.NumWorkGroups = Some (codes "@builtin(num_workgroups) ")
built_in_text built_in.NumSubgroups = Some (codes "@builtin(num_subgroups) ")
built_in_text built_in.SubgroupId = Some (codes "@builtin(subgroup_id) ")
built_in_text built_in.SubgroupSize = Some (codes "@builtin(subgroup_size) ")
built_in_text built_in.SubgroupInvocationId = Some (codes "@builtin(subgroup_invocation_id) ")
built_in_text _ = None

-- the name of an interpolation, if WGSL has it
abbrev pub interpolation_name : Interpolation → Option (List ℕ)
interpolation_name interpolation.Perspective = Some (codes "perspective")
interpolation_name interpolation.Linear = Some (codes "linear")
interpolation_name interpolation.Flat = Some (codes "flat")
interpolation_name interpolation.PerVertex = None

abbrev pub sampling_name : Sampling → List ℕ
sampling_name sampling.Center = codes "center"
sampling_name sampling.Centroid = codes "centroid"
sampling_name sampling.Sample = codes "sample"
sampling_name sampling.First = codes "first"
sampling_name sampling.Either = codes "either"

-- a sampling behind an interpolation, if there is one
abbrev pub sampling_text : Option Sampling → List ℕ
sampling_text None = []
sampling_text (Some sampling) = codes ", " ++ sampling_name sampling

-- the attribute of an interpolation that has a name
abbrev pub named_interpolation_text : (name : Option (List ℕ)) → Option Sampling → Result (List ℕ) Cause
named_interpolation_text None sampling = Err cause.Binding
named_interpolation_text (Some name) sampling = Ok (codes "@interpolate(" ++ (name ++ (sampling_text sampling ++ codes ") ")))

-- the attribute of an interpolation, if there is one; a sampling alone cannot be written
abbrev pub interpolation_text : Option Interpolation → Option Sampling → Result (List ℕ) Cause
interpolation_text (Some interpolation) sampling = named_interpolation_text (interpolation_name interpolation) sampling
interpolation_text None (Some sampling) = Err cause.Binding
interpolation_text None None = Ok []

-- the index from which a colour is blended, if there is one
abbrev pub blend_text : Option ℕ → List ℕ
blend_text None = []
blend_text (Some index) = codes "@blend_src(" ++ (decimal index ++ codes ") ")

-- the attributes of a location; WGSL has none that are the same for a whole primitive
abbrev pub location_text : (location : ℕ) → Option Interpolation → Option Sampling → (blend_src : Option ℕ) → (per_primitive : Bool) → Result (List ℕ) Cause
location_text location interpolation sampling blend_src true = Err cause.Binding
location_text location interpolation sampling blend_src false =
    followed (Ok (codes "@location(" ++ (decimal location ++ (codes ") " ++ blend_text blend_src)))) (interpolation_text interpolation sampling)

-- the attributes of a binding, if there is one, each with a space after it
abbrev pub binding_text : Option Binding → Result (List ℕ) Cause
binding_text None = Ok []
binding_text (Some (binding.BuiltIn value)) = name_or cause.Binding (built_in_text value)
binding_text (Some (binding.Location location interpolation sampling blend_src per_primitive)) =
    location_text location interpolation sampling blend_src per_primitive
