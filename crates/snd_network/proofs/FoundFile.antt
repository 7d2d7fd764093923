-- The file of the sections, with the numbers of the nodes.
use Rattle.std.proofs.Common.{◌≡◌, ℕ, List, Some, sym, ap, subst, ◌∙◌}
use Rattle.snd_network.specs.declared.file.NodeRecord.{NodeRecord}
use Rattle.snd_network.specs.declared.file.NetworkFile.{NetworkFile}
use Rattle.snd_network.specs.declared.draft.LinkDraft.{LinkDraft}
use Rattle.snd_network.specs.declared.draft.DemandDraft.{DemandDraft}
use Rattle.snd_network.specs.declared.draft.Named.{Named}
use Rattle.snd_network.specs.declared.draft.Table.{Table}
use Rattle.snd_network.specs.declared.draft.Draft.{Draft}
use Rattle.snd_network.specs.Ends.{IsLinkOf, IsDemandOf, AreAllOf, IsFileOf, names_of, rows_of}

-- the nodes of the sections, and their links and demands with the numbers found, make the file of the sections
pub file_found : (d : Draft) (nodes : Table NodeRecord) (links : Table (Named LinkDraft)) (demands : Table (Named DemandDraft)) (file : NetworkFile) (ls : List (Named LinkDraft)) (ds : List (Named DemandDraft))
    → d.nodes ≡ Some nodes → d.links ≡ Some links → d.demands ≡ Some demands → file.nodes ≡ nodes.rows → ls ≡ links.rows → ds ≡ demands.rows
    → AreAllOf (IsLinkOf nodes.names) ls file.links → AreAllOf (IsDemandOf nodes.names) ds file.demands → IsFileOf d file
file_found d nodes links demands file ls ds n l k rows e i found_links found_demands = record {
  nodes = rows ∙ sym (ap rows_of n);
  links = subst (λ (names : List (List ℕ)). AreAllOf (IsLinkOf names) (rows_of d.links) file.links) (sym (ap names_of n)) (subst (λ (xs : List (Named LinkDraft)). AreAllOf (IsLinkOf nodes.names) xs file.links) (e ∙ sym (ap rows_of l)) found_links);
  demands = subst (λ (names : List (List ℕ)). AreAllOf (IsDemandOf names) (rows_of d.demands) file.demands) (sym (ap names_of n)) (subst (λ (xs : List (Named DemandDraft)). AreAllOf (IsDemandOf nodes.names) xs file.demands) (i ∙ sym (ap rows_of k)) found_demands);
}
