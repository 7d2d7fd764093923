-- The least of some columns, as one more is looked at.
use Rattle.std.proofs.Math.Path.{fun_ext}
use Rattle.std.proofs.Common.{Bor, ◌≡◌, ℕ, ◌+◌, ◌<◌, Bool, true, false, List, [], ◌∷◌, ◌++◌, length, get_or, take, Option, Some, None, refl, sym, ap, subst, ◌∙◌, arith, length-append}
use Rattle.std.specs.Prelude.{nat_lt, if◌then◌else◌, filter}
use Rattle.std.proofs.lemmas.List.{append-nil, take_all}
use Rattle.std.proofs.lemmas.List.Elements.{filter_more}
use Rattle.plan_base.specs.declared.ids.ArcId.{ArcId}
use Rattle.plan_base.specs.declared.parts.Parts.{Parts}
use Rattle.arc_restrict.specs.Prices.{price_of}
use Rattle.arc_restrict.specs.Restrictions.{Forbidden, IsPermitted}
use Rattle.column_pool.specs.Columns.{is_permitted, columns_at}
use Rattle.column_pool.specs.Briefs.{AreAllPaths}
use Rattle.column_pool.proofs.AddedColumns.{IsPermitted-told, told-IsPermitted}
use Rattle.master_step.specs.declared.source.Source.{Source}
use Rattle.master_step.specs.declared.source.Source.TheVariants.{Lists}
use Rattle.master_step.specs.declared.source.Least.{Least}
use Rattle.master_step.specs.Columns.{least_column, least_price}
use Rattle.master_step.specs.Choosing.{all_of, is_allowed, allowed_of, IsSource, IsLeastAt, IsLeastOf, cheaper_of}
use Rattle.master_step.proofs.LeastColumns.{least_column-one, least_column-push}

module _ (p : Parts) (prices : List ℕ) (test : List ArcId → Bool) (all : List (List ArcId)) (n : ℕ) (within : n < length all) where
  -- the columns that pass before a place
  abbrev passing : ℕ → List (List ArcId)
  passing count = filter test (take count all)

  passing-skip : test (get_or all n []) ≡ false → passing (n + 1) ≡ passing n
  passing-skip fails =
      let next = filter_more test all n [] within in
      (rw fails at next) ∙ append-nil (passing n)

  passing-more : test (get_or all n []) ≡ true → passing (n + 1) ≡ passing n ++ get_or all n [] ∷ []
  passing-more passes =
      let next = filter_more test all n [] within in
      rw passes at next

  -- a column that does not pass
  pub least-skip : (least : Option Least) → test (get_or all n []) ≡ false → IsLeastOf p prices test all n least → IsLeastOf p prices test all (n + 1) least
  least-skip None fails h = passing-skip fails ∙ h
  least-skip (Some least) fails h =
      let same = passing-skip fails in
      record {
        some = subst (λ (xs : List (List ArcId)). 0 < length xs) (sym same) h.some;
        within = (let w = h.within in omega arith);
        is_path = h.is_path ∙ ap (least_column p prices) (sym same);
        is_price = h.is_price ∙ ap (least_price p prices) (sym same);
      }

  -- a column that passes, of this price
  pub least-more : (least : Option Least) (price : ℕ) → test (get_or all n []) ≡ true → price ≡ price_of p prices (get_or all n []) → IsLeastOf p prices test all n least
      → IsLeastOf p prices test all (n + 1) (Some (cheaper_of least (record { place = n; price = price })))
  least-more None price passes is h =
      let one : passing (n + 1) ≡ get_or all n [] ∷ [] = passing-more passes ∙ ap (λ (xs : List (List ArcId)). xs ++ get_or all n [] ∷ []) h in
      let path : get_or all n [] ≡ least_column p prices (passing (n + 1)) = sym (ap (least_column p prices) one ∙ least_column-one p prices (get_or all n [])) in
      record {
        some = subst (λ (xs : List (List ArcId)). 0 < length xs) (sym one) (omega arith);
        within = omega arith;
        is_path = path;
        is_price = is ∙ ap (price_of p prices) path;
      }
  least-more (Some least) price passes is h = by (nat_lt price least.price) refl
    where
      longer : 0 < length (passing (n + 1))
      longer = subst (λ (xs : List (List ArcId)). 0 < length xs) (sym (passing-more passes)) (omega (arith, length-append (passing n) (get_or all n [] ∷ [])))

      pushed : least_column p prices (passing (n + 1)) ≡ (if nat_lt (price_of p prices (get_or all n [])) (least_price p prices (passing n)) then get_or all n [] else least_column p prices (passing n))
      pushed = ap (least_column p prices) (passing-more passes) ∙ least_column-push p prices (passing n) (get_or all n []) h.some

      tested : nat_lt (price_of p prices (get_or all n [])) (least_price p prices (passing n)) ≡ nat_lt price least.price
      tested = ap (λ (x : ℕ). nat_lt x (least_price p prices (passing n))) (sym is) ∙ ap (nat_lt price) (sym h.is_price)

      by : (b : Bool) → nat_lt price least.price ≡ b → IsLeastAt p prices test all (n + 1) (if b then record { place = n; price = price } else least)
      by true less =
          let path : get_or all n [] ≡ least_column p prices (passing (n + 1)) = sym (pushed ∙ rw (tested ∙ less) refl) in
          record { some = longer; within = omega arith; is_path = path; is_price = is ∙ ap (price_of p prices) path }
      by false more =
          let path : least_column p prices (passing n) ≡ least_column p prices (passing (n + 1)) = sym (pushed ∙ rw (tested ∙ more) refl) in
          record { some = longer; within = (let w = h.within in omega arith); is_path = h.is_path ∙ path; is_price = h.is_price ∙ ap (price_of p prices) path }

-- a test that tells whether the path is permitted
pub permits-is : (r : Forbidden) (k : ℕ) (path : List ArcId) (told : Bool) → (told ≡ true → IsPermitted r k path) → (IsPermitted r k path → told ≡ true) → told ≡ is_permitted r k path
permits-is r k path true shows shown = sym (told-IsPermitted r k path (shows refl))
permits-is r k path false shows shown = by (is_permitted r k path) refl
  where
    by : (b : Bool) → is_permitted r k path ≡ b → false ≡ is_permitted r k path
    by true e = absurd (let bad : false ≡ true = shown (IsPermitted-told r k path e) in cc)
    by false e = sym e

-- the least of all columns of a demand is its least column
pub least-column : (p : Parts) (source : Source) (prices : List ℕ) (k : ℕ) (least : Least) → IsLeastAt p prices (is_allowed source k) (all_of source k) (length (all_of source k)) least
    → get_or (all_of source k) least.place [] ≡ least_column p prices (allowed_of source k)
least-column p source prices k least h =
    h.is_path ∙ ap (λ (xs : List (List ArcId)). least_column p prices (filter (is_allowed source k) xs)) (take_all (length (all_of source k)) (all_of source k) (omega arith))

-- the price of the least of all columns of a demand is that of its least column
pub least-price : (p : Parts) (source : Source) (prices : List ℕ) (k : ℕ) (least : Least) → IsLeastAt p prices (is_allowed source k) (all_of source k) (length (all_of source k)) least
    → least.price ≡ least_price p prices (allowed_of source k)
least-price p source prices k least h =
    h.is_price ∙ ap (λ (xs : List (List ArcId)). least_price p prices (filter (is_allowed source k) xs)) (take_all (length (all_of source k)) (all_of source k) (omega arith))

-- where no column passes, the demand has none
pub none_passes : (source : Source) (prices : List ℕ) (k : ℕ) → filter (is_allowed source k) (take (length (all_of source k)) (all_of source k)) ≡ [] → length (allowed_of source k) ≡ 0
none_passes source prices k none =
    ap length (ap (filter (is_allowed source k)) (sym (take_all (length (all_of source k)) (all_of source k) (omega arith))) ∙ none)

filter_true : (paths : List (List ArcId)) → filter (λ path. true) paths ≡ paths
filter_true [] = refl
filter_true (path ∷ paths) = ap (λ (xs : List (List ArcId)). path ∷ xs) (filter_true paths)

-- each column of a list is allowed
pub lists-allowed : (lists : Bor (List (List (List ArcId)))) → allowed_of (Lists lists) ≡ columns_at lists.now
lists-allowed lists = fun_ext (λ k. filter_true (columns_at lists.now k))

-- lists of simple paths are a source
pub lists-source : (p : Parts) (lists : Bor (List (List (List ArcId)))) → length lists.now ≡ length p.demands → AreAllPaths p lists.now (length p.demands) → IsSource p (Lists lists)
lists-source p lists count paths = record { count = count; simple = λ k i here below. paths k here i [] below }
