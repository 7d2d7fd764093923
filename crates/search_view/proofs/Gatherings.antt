-- The columns that a node permits, and what a master step is told of them.
use Rattle.std.proofs.Common.{[], ◌≡◌, ℕ, ◌+◌, ◌<◌, ◌⊎◌, inl, inr, List, ◌∷◌, ◌++◌, length, length-append, get_or, Option, Some, slice_get, refl, sym, ap, subst, ◌∙◌, arith}
use Rattle.std.specs.Prelude.{IfSome}
use Rattle.std.proofs.lemmas.List.{get_or_append_left}
use Rattle.std.proofs.Math.Seq.{get_or-append_seam}
use Rattle.plan_base.specs.declared.ids.ArcId.{ArcId}
use Rattle.arc_restrict.specs.Restrictions.{Forbidden}
use Rattle.plan_base.specs.declared.ids.BranchId.{BranchId}
use Rattle.plan_base.specs.declared.parts.Parts.{Parts}
use Rattle.arc_restrict.specs.Rows.{Rows, forbids}
use Rattle.column_pool.specs.Columns.{Columns, columns_at, permitted_at}
use Rattle.column_pool.specs.declared.brief.Brief.{Brief}
use Rattle.search_machine.specs.State.{Round, Node, State, restriction_of, ranges_of, cutoff_of, round_of}
use Rattle.search_machine.specs.Changes.{is_version}
use Rattle.search_machine.specs.Gathering.{IsBriefOf}
use Rattle.search_machine.proofs.Frames.{one_at}
use Rattle.search_view.specs.Work.{enough_in}
use Rattle.search_view.specs.Valuing.{ForRound, ArePermittedLists}
use Rattle.search_view.proofs.TaskLaws.{HasRound}
use Rattle.search_view.proofs.Valuing.{read-node, same-round}

-- Lists of columns that a restriction permits

-- for the first 0 demands the lists of permitted columns are none
pub no_lists : (r : Forbidden) (columns : Columns) → ArePermittedLists 0 r columns []
no_lists r columns = record { count_is = refl; each = λ k below. absurd (omega arith) }

below-or-last : (k n : ℕ) → k < n + 1 → (k < n) ⊎ (k ≡ n)
below-or-last k n h = grind arith

-- with the permitted columns of the next demand behind them, the lists are those of one demand more
pub next_list : (n : ℕ) (r : Forbidden) (columns lists : Columns) (one : List (List ArcId)) → ArePermittedLists n r columns lists → one ≡ permitted_at r columns n → ArePermittedLists (n + 1) r columns (lists ++ (one ∷ []))
next_list n r columns lists one h is =
    let size = h.count_is in
    let long = length-append lists (one ∷ []) in
    record {
      count_is = omega arith;
      each = λ k below. elim (below-or-last k n below) [
        | inl before ↦ get_or_append_left lists (one ∷ []) [] k (omega arith) ∙ h.each k before
        | inr last ↦
            let here : columns_at (lists ++ (one ∷ [])) (length lists) ≡ one = get_or-append_seam lists one [] [] in
            let at : length lists ≡ k = omega arith in
            subst (λ (i : ℕ). columns_at (lists ++ (one ∷ [])) i ≡ one) at here ∙ is ∙ ap (permitted_at r columns) (sym last)
      ];
    }

-- the lists, where the instance and the restriction are those of the pool
pub lists-for : (s : State) (id : BranchId) (h : HasRound s id) (p : Parts) (rows : Rows) (lists : Columns) → p ≡ s.problem → forbids rows ≡ restriction_of h.node
    → ArePermittedLists (length p.demands) (forbids rows) s.columns lists → ForRound s id (λ x round. ArePermittedLists (length s.problem.demands) (restriction_of x) s.columns lists)
lists-for s id h p rows lists is_p is_rows are x round is_node is_round =
    let same : x ≡ h.node = one_at s.nodes id.0 x h.node is_node h.is_node in
    subst (λ (n : Node). ArePermittedLists (length s.problem.demands) (restriction_of n) s.columns lists) (sym same)
    (subst (λ (r : Forbidden). ArePermittedLists (length s.problem.demands) r s.columns lists) is_rows
    (subst (λ (q : Parts). ArePermittedLists (length q.demands) (forbids rows) s.columns lists) is_p are))

-- The brief

-- what is read field by field of a node and its round is the brief of a master step
pub briefs : (s t : State) (id : BranchId) (read : Round) (item : Node) (brief : Brief) → s ≡ t → Some read ≡ round_of t id → item ≡ get_or s.nodes id.0 item
    → brief.node ≡ id → brief.version ≡ read.version → brief.prices ≡ read.prices
    → IfSome (slice_get t.nodes id.0) (λ x. brief.ranges ≡ ranges_of t.problem x)
    → ForRound t id (λ x round. ArePermittedLists (length t.problem.demands) (restriction_of x) t.columns brief.columns)
    → brief.crowd_tried ≡ item.crowd_tried → brief.has_enough ≡ enough_in t (slice_get t.nodes id.0) → brief.incumbent ≡ cutoff_of t → brief.unit ≡ t.unit
    → ForRound t id (λ x round. IsBriefOf t id x round brief)
briefs s t id read item brief states is_read is_item is_id is_version is_prices ranges lists is_tried is_enough is_cost is_unit x round is_node is_round =
    let rounds : read ≡ round = same-round t id read x round is_read is_node is_round in
    let nodes : item ≡ x = read-node s t id item x states is_item is_node in
    let are = lists x round is_node is_round in
    record {
      node_is = is_id;
      version = is_version ∙ ap (λ (r : Round). r.version) rounds;
      prices = is_prices ∙ ap (λ (r : Round). r.prices) rounds;
      ranges = subst (λ (o : Option Node). IfSome o (λ (n : Node). brief.ranges ≡ ranges_of t.problem n)) is_node ranges;
      count = are.count_is;
      columns = are.each;
      crowd_tried = is_tried ∙ ap (λ (n : Node). n.crowd_tried) nodes;
      has_enough = is_enough ∙ ap (enough_in t) is_node;
      incumbent = is_cost;
      unit = is_unit;
    }
