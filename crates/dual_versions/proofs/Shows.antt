-- A show makes the next table.
use Rattle.std.proofs.Common.{◌≡◌, ℕ, ◌+◌, ◌-◌, ◌<◌, List, [], ◌∷◌, ◌++◌, length, map, fold, replicate, None, true, false, true≢false, ap, sym, subst, ◌∙◌, arith, length-append}
use Rattle.dual_versions.specs.declared.table.Table.{Table}
use Rattle.dual_versions.specs.declared.table.Put.{Put}
use Rattle.dual_versions.specs.declared.rule.View.{View}
use Rattle.dual_versions.specs.Tables.{Entries, after, last_of}
use Rattle.dual_versions.specs.Boards.{Board, saturated, with_pending_shown}
use Rattle.dual_versions.specs.Rows.{shown_entries, taken, pair_of, HaveRoom, blank}
use Rattle.dual_versions.specs.Views.{IsBoard, ArePuts, Shown, tables_of, newcomer}
use Rattle.plan_base.specs.declared.ids.BranchId.{BranchId}
use Rattle.dual_versions.proofs.RowLists.{rooms, blanks_shown}
use Rattle.dual_versions.proofs.Puts.{IsAfter, folded, folded_number, last_of_more}

-- the board that a writer's view, its newest table and its pending puts stand for
abbrev pub board_of : ℕ → View → Table → List Put → Board
board_of prices v x ps = record { slots = length x.rows.items; prices = prices; tables = tables_of v x; pending = map pair_of ps }

module _ (prices : ℕ) (v w : View) (x y : Table) (ps qs : List Put) where
  is_after : IsBoard prices v x ps → (y.number, y.rows.items) ≡ fold taken (x.number, x.rows.items) ps → IsAfter prices x.number x.rows.items ps (y.number, y.rows.items)
  is_after b is = subst (IsAfter prices x.number x.rows.items ps) (sym is) (folded prices x.number x.number x.rows.items ps b.rows b.puts)

  tables_are : Shown v x y w → tables_of w y ≡ tables_of v x ++ shown_entries y.rows.items ∷ []
  tables_are s = ap (λ (u : View). tables_of u y) s

  -- after a show the new table and no pending puts are a board
  pub still_board : IsBoard prices v x ps → 0 < length ps → (y.number, y.rows.items) ≡ fold taken (x.number, x.rows.items) ps → qs ≡ [] → Shown v x y w → IsBoard prices w y qs
  still_board b some' is none s =
      let next : y.number ≡ saturated (x.number + 1) = ap (λ (t : ℕ × List _). t.0) is ∙ folded_number (length x.rows.items) prices x.number x.number x.rows.items ps some' b.puts in
      let one : length (tables_of v x) ≡ length b.last.0 + 1 = ap length b.last.1 ∙ length-append b.last.0 (shown_entries x.rows.items ∷ []) in
      let two : length (tables_of w y) ≡ length (tables_of v x) + 1 = ap length (tables_are s) ∙ length-append (tables_of v x) (shown_entries y.rows.items ∷ []) in
      let now = b.number in
      record {
        fresh = λ f. absurd (true≢false (sym (ap (λ (u : View). u.writes) s) ∙ f));
        number = omega (arith, next, one, two, now);
        last = (tables_of v x, tables_are s);
        rows = (is_after b is).room;
        puts = subst (ArePuts (length y.rows.items) prices y.number) (sym none) tt;
      }

  -- a show adds the table that the pending puts make, and none is pending any more
  pub shows_all : IsBoard prices v x ps → (y.number, y.rows.items) ≡ fold taken (x.number, x.rows.items) ps → qs ≡ [] → Shown v x y w
      → board_of prices w y qs ≡ record { slots = length x.rows.items; prices = prices; tables = tables_of v x ++ after (last_of (tables_of v x)) (map pair_of ps) ∷ []; pending = [] }
  shows_all b is none s =
      let a = is_after b is in
      let last : last_of (tables_of v x) ≡ shown_entries x.rows.items = ap last_of b.last.1 ∙ last_of_more b.last.0 (shown_entries x.rows.items) in
      let table : shown_entries y.rows.items ≡ after (last_of (tables_of v x)) (map pair_of ps) = a.shown ∙ ap (λ (t : Entries). after t (map pair_of ps)) (sym last) in
      let tables : tables_of w y ≡ tables_of v x ++ after (last_of (tables_of v x)) (map pair_of ps) ∷ [] = tables_are s ∙ ap (λ (t : Entries). tables_of v x ++ t ∷ []) table in
      let pending : map pair_of qs ≡ [] = ap (map pair_of) none in
      λ i. record { slots = a.size i; prices = prices; tables = tables i; pending = pending i }

-- a show with pending puts is the step of the board that the model names
pub shows_pending : (prices : ℕ) (v w : View) (x y : Table) (ps qs : List Put) → IsBoard prices v x ps → 0 < length ps → (y.number, y.rows.items) ≡ fold taken (x.number, x.rows.items) ps → qs ≡ [] → Shown v x y w → board_of prices w y qs ≡ with_pending_shown (board_of prices v x ps)
shows_pending prices v w x y [] qs b some' is none s = absurd (omega arith)
shows_pending prices v w x y (p ∷ ps) qs b some' is none s = shows_all prices v w x y (p ∷ ps) qs b is none s

one_table : (v : View) (x : Table) → v ≡ newcomer → tables_of v x ≡ shown_entries x.rows.items ∷ []
one_table v x is = ap (λ (u : View). tables_of u x) is

-- a new table of blank rows is a board
pub made : (prices slots : ℕ) (node : BranchId) (v : View) (x : Table) (ps : List Put) → x.number ≡ 0 → x.rows.items ≡ replicate slots (blank node prices) → v ≡ newcomer → ps ≡ [] → IsBoard prices v x ps
made prices slots node v x ps none rows is no_puts =
    let one : length (tables_of v x) ≡ 1 = ap length (one_table v x is) in
    record {
      fresh = λ _. none;
      number = omega (arith, one, none);
      last = ([], one_table v x is);
      rows = subst (HaveRoom prices) (sym rows) (rooms slots prices node);
      puts = subst (ArePuts (length x.rows.items) prices x.number) (sym no_puts) tt;
    }

-- a new board has one table, without entries
pub made_tables : (prices slots : ℕ) (node : BranchId) (v : View) (x : Table) → x.rows.items ≡ replicate slots (blank node prices) → v ≡ newcomer → tables_of v x ≡ replicate slots None ∷ []
made_tables prices slots node v x rows is = one_table v x is ∙ ap (λ (t : Entries). t ∷ []) (ap shown_entries rows ∙ blanks_shown slots prices node)
