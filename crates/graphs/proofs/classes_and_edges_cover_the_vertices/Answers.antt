-- The theorem is shown in proofs/Trees.antt.
use Rattle.graphs.proofs.Trees.{classes_and_edges_cover_the_vertices_lem}
use Rattle.graphs.proofs.classes_and_edges_cover_the_vertices.Goals as goal

pub returns : goal.returns
returns c = classes_and_edges_cover_the_vertices_lem
