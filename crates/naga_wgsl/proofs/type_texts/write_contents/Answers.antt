use Rattle.std.proofs.Common.{ap}
use Rattle.std.specs.List.{slice_get}
use Rattle.naga_wgsl.specs.Images.{image_text}
use Rattle.naga_wgsl.specs.TypeTexts.{array_of, contents_text, name_at, pointer_to, text_at}
use Rattle.naga_wgsl.proofs.AttemptsLemmas.{attempts-as}
use Rattle.naga_wgsl.proofs.type_texts.write_contents.Goals as goal

pub returns-in-Pointer : goal.returns-in-Pointer
returns-in-Pointer c =
    attempts-as _ (pointer_to (text_at c.args.known.now c.in-Pointer.base) c.in-Pointer.space) _ _ _
    (ap (contents_text c.args.known.now c.args.layouts.now (name_at c.args.names.now c.args.index)) c.in-Pointer.is) c.write_pointer_to.ensures

pub returns-in-Array : goal.returns-in-Array
returns-in-Array c =
    attempts-as _ (array_of (text_at c.args.known.now c.in-Array.base) (slice_get c.args.layouts.now c.in-Array.base) c.in-Array.size c.in-Array.stride) _ _ _
    (ap (contents_text c.args.known.now c.args.layouts.now (name_at c.args.names.now c.args.index)) c.in-Array.is) c.write_array_of.ensures

pub returns-in-Image : goal.returns-in-Image
returns-in-Image c =
    attempts-as _ (image_text c.in-Image.dim c.in-Image.arrayed c.in-Image.class) _ _ _
    (ap (contents_text c.args.known.now c.args.layouts.now (name_at c.args.names.now c.args.index)) c.in-Image.is) c.write_image.ensures
