-- Paths of a round that are columns, or become columns.
use Rattle.std.proofs.Common.{◌≡◌, ℕ, zero, suc, ◌+◌, ◌<◌, true, false, List, length, get_or, Option, Some, None, refl, sym, ap, ◌∙◌, add-one, length-set}
use Rattle.std.specs.Prelude.{slice_index_or}
use Rattle.std.proofs.lemmas.Option.{slice_get-get_or, get_or_from_slice_get}
use Rattle.plan_base.specs.declared.ids.DemandId.{DemandId}
use Rattle.plan_base.specs.Faults.{demand_id}
use Rattle.column_pool.specs.Columns.{Columns, columns_at, column_added}
use Rattle.search_machine.specs.declared.tree.Found.{Found}
use Rattle.search_machine.specs.Gathering.{with_path_of, gathered, ungathered_at}
use Rattle.search_nodes.specs.Rounds.{is_ungathered}

-- where the path of a demand is found and none of its columns, the demand is named as ungathered
pub ungathered-some : (columns : Columns) (k : ℕ) (o : Option Found) (id : DemandId) → id ≡ demand_id k → is_ungathered columns k o ≡ true → ungathered_at columns k o ≡ Some id
ungathered-some columns k None id same h = absurd (let bad : false ≡ true = h in cc)
ungathered-some columns k (Some one) id same h = rw h (ap (λ (x : DemandId). Some x) (sym same))

-- where no path is found, or it is a column of the demand, no demand is named as ungathered
pub ungathered-none : (columns : Columns) (k : ℕ) (o : Option Found) → is_ungathered columns k o ≡ false → ungathered_at columns k o ≡ None
ungathered-none columns k None h = refl
ungathered-none columns k (Some one) h = rw h refl

-- which demand a place of a round names as one whose path is none of its columns
pub ruleset ungathered_paths = (ungathered-some, ungathered-none)

with_path-length : (columns : Columns) (k : ℕ) (o : Option Found) → length (with_path_of columns k o) ≡ length columns
with_path-length columns k None = refl
with_path-length columns k (Some one) = length-set columns k (column_added (columns_at columns k) one.path)

-- the columns have as many lists after a gathering as before it
pub gathered-length : (columns : Columns) (found : List (Option Found)) (n : ℕ) → length (gathered columns found n) ≡ length columns
gathered-length columns found zero = refl
gathered-length columns found (suc n) = with_path-length (gathered columns found n) n (slice_index_or found n None) ∙ gathered-length columns found n

-- the path of one demand more
pub gathered-next : (columns before after : Columns) (found : List (Option Found)) (n : ℕ) (o : Option Found) → n < length found → o ≡ get_or found n o → before ≡ gathered columns found n → after ≡ with_path_of before n o → after ≡ gathered columns found (n + 1)
gathered-next columns before after found n o within read is next =
    let at : slice_index_or found n None ≡ o = get_or_from_slice_get found n o None (slice_get-get_or found n o within ∙ ap (λ (x : Option Found). Some x) (sym read)) in
    next ∙ ap (λ (x : Columns). with_path_of x n o) is ∙ ap (with_path_of (gathered columns found n) n) (sym at) ∙ ap (gathered columns found) (sym (add-one n))
