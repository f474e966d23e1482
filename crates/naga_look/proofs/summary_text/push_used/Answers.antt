use Rattle.std.proofs.Common.{◌++◌, codes}
use Rattle.naga_text.proofs.PiecesLemmas.{OnOk-after}
use Rattle.naga_look.specs.SummaryText.{use_line}
use Rattle.naga_look.proofs.summary_text.push_used.Goals as goal

pub returns : goal.returns
returns c =
    let summary = c.args.summary.now in
    let pipelines = use_line (codes "ray pipelines") summary.ray_pipelines in
    let queries = use_line (codes "ray queries") summary.ray_queries in
    let meshes = use_line (codes "mesh shaders") summary.mesh_shaders in
    let last = OnOk-after c.push_use-3.result c.push_use.new.text c.push_use-2.new.text c.push_use-3.new.text queries meshes c.in_ok-push_use-2.ensures c.push_use-3.ensures in
    OnOk-after c.push_use-3.result c.args.text.now c.push_use.new.text c.push_use-3.new.text pipelines (queries ++ meshes) c.in_ok-push_use.ensures last
