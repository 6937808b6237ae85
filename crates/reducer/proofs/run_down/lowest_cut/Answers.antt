use Rattle.std.proofs.Common.{◌≡◌, ◌∙◌, rules}
use Rattle.std.proofs.lemmas.Iterator.{YieldsList-from_slice}
use Rattle.std.proofs.lemmas.Iterator.Search.{position_from_yields_List}
use Rattle.reducer.proofs.Cuts.{is_cut, is_cut_by, lowest_is}
use Rattle.reducer.proofs.run_down.lowest_cut.Goals as goal

pub returns : goal.returns
returns c =
    let ls = c.args.table.now.slots.at in
    let i = position_from_yields_List is_cut _ _ c.position.result c.position.ensures.ran (YieldsList-from_slice ls cc) (λ x b q k. (search rules, is_cut_by x.now b (search rules))) in
    let r : c.map.result ≡ c.position.result = search rules in
    record { answer = lowest_is ls c.map.result (r ∙ i) }
