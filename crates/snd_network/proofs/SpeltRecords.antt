-- The tokens of a record stand for it.
use Rattle.std.proofs.Common.{◌≡◌, ℕ, zero, suc, ◌+◌, ◌/◌, ◌^◌, ◌<◌, ◌≤◌, List, [], ◌∷◌, ◌++◌, length, get_or, All, Option, Some, None, refl, sym, ap, ◌∙◌, append_assoc, arith, rules, decimal}
use Rattle.std.specs.Prelude.{Ok}
use Rattle.std.specs.Option.{option_map}
use Rattle.std.proofs.lemmas.List.{append-nil, length-map}
use Rattle.std.proofs.lemmas.List.Elements.{All-head, All-tail}
use Rattle.scaled_numbers.specs.Scanning.{decimal_of}
use Rattle.scaled_numbers.specs.Canonical.{grains_text}
use Rattle.plan_base.specs.declared.ids.NodeId.{NodeId}
use Rattle.snd_reader.specs.Readers.{word, open_bracket, close_bracket, Placed}
use Rattle.snd_reader.specs.Forms.{Items}
use Rattle.snd_network.specs.declared.file.NodeRecord.{NodeRecord}
use Rattle.snd_network.specs.declared.file.LinkRecord.{LinkRecord}
use Rattle.snd_network.specs.declared.file.DemandRecord.{DemandRecord}
use Rattle.snd_network.specs.declared.draft.LinkDraft.{LinkDraft}
use Rattle.snd_network.specs.declared.draft.DemandDraft.{DemandDraft}
use Rattle.snd_reader.specs.Names.{number_of}
use Rattle.snd_network.specs.Grammar.{IsOpen, IsClose, IsNumeral, IsNumber, IsEndName, IsEnd, IsSignedWord, IsCoordinate, IsLimitWord, IsHopLimit, EndsForm, BeginsModule, ModuleForm, ModulesForm, CostsForm, LinkForm, DemandForm}
use Rattle.snd_network.specs.Ends.{node_id, IsNode, IsLinkOf, IsDemandOf}
use Rattle.snd_network.specs.WellFormed.{IsName, IsCoordinateWord, IsGrains, IsWhole, IsLimit, IsModule, IsGoodNode, IsGoodLink, IsGoodDemand, AreDifferent, node_names}
use Rattle.snd_reader.specs.Writing.{grains, whole}
use Rattle.snd_network.specs.Writing.{end_token, module_tokens, limit_token}
use Rattle.snd_network.proofs.Agree.{is_read, checked_same}
use Rattle.snd_network.proofs.NameLists.{own_number}
use Rattle.snd_reader.proofs.Standing.{Reads, reads_then, reads_last, reads_token, reads_end, reads_item}

-- what is written of a number below 10^12 is read back as it
abbrev pub IsReadBack : Type 0
IsReadBack = (value scale : ℕ) → scale ≤ 12 → value < 10 ^ (12 + scale) → decimal_of (grains_text value scale) scale ≡ Ok value

-- ---- single tokens

-- an opening bracket has the form of one wherever it stands
pub reads_open : Reads IsOpen (λ _. Unit {0}) (open_bracket ∷ [])
reads_open = reads_token (λ t _. t.is ≡ open_bracket) (λ _. Unit {0}) open_bracket (λ t e. record { value = tt; is = e; good = tt })

-- a closing bracket has the form of one wherever it stands
pub reads_close : Reads IsClose (λ _. Unit {0}) (close_bracket ∷ [])
reads_close = reads_token (λ t _. t.is ≡ close_bracket) (λ _. Unit {0}) close_bracket (λ t e. record { value = tt; is = e; good = tt })

-- a word that is a good coordinate stands for itself as a coordinate
pub reads_coordinate : (bytes : List ℕ) → IsCoordinateWord bytes → Reads IsCoordinate (λ x. x ≡ bytes) (word bytes ∷ [])
reads_coordinate bytes h = reads_token IsSignedWord (λ x. x ≡ bytes) (word bytes) (λ t e. record { value = bytes; is = (e, (checked_same bytes).0 h.number); good = refl })

-- the end is this node
pub node_of : (nodes : List NodeRecord) (id : NodeId) → AreDifferent (node_names nodes) → id.0 < length nodes → number_of (node_names nodes) (get_or (node_names nodes) id.0 []) ≡ Some id.0
node_of nodes id apart within = own_number (node_names nodes) id.0 apart (let same : length (node_names nodes) ≡ length nodes = search (rules, length-map) in omega arith)

abbrev name_at : List NodeRecord → NodeId → List ℕ
name_at nodes id = get_or (node_names nodes) id.0 []

-- the name of each of good nodes is a word of at most 64 bytes
pub good_name : (nodes : List NodeRecord) (i : ℕ) → All IsGoodNode nodes → i < length nodes → IsName (get_or (node_names nodes) i [])
good_name [] i h within = absurd (omega arith)
good_name (n ∷ nodes) zero h within = (All-head IsGoodNode n nodes h).name
good_name (n ∷ nodes) (suc i) h within = good_name nodes i (All-tail IsGoodNode n nodes h) (omega arith)

-- ---- parts of a network of these nodes

module _ (back : IsReadBack) where
  -- the canonical decimal of a number of millionths stands for that number
  pub reads_grains : (n : ℕ) → IsGrains n → Reads (IsNumber 6) (λ x. x ≡ n) (grains n ∷ [])
  reads_grains n h = reads_token (IsNumeral 6) (λ x. x ≡ n) (grains n) (λ t e. record { value = n; is = (grains_text n 6, e, is_read (grains_text n 6) 6 n (back n 6 (omega arith) h)); good = refl })

  -- the decimal digits of a whole number below 10^12 are read back as it
  pub whole_is_read : (n : ℕ) → IsWhole n → decimal_of (decimal n) 0 ≡ Ok n
  unfolding grains_text
  whole_is_read n h =
      let one : n / 10 ^ 0 ≡ n = omega arith in
      let same : grains_text n 0 ≡ decimal n = append-nil (decimal (n / 10 ^ 0)) ∙ ap decimal one in
      ap (λ (bytes : List ℕ). decimal_of bytes 0) (sym same) ∙ back n 0 (omega arith) h

  -- the decimal digits of a whole number below 10^12 stand for that number
  pub reads_whole : (n : ℕ) → IsWhole n → Reads (IsNumber 0) (λ x. x ≡ n) (whole n ∷ [])
  reads_whole n h = reads_token (IsNumeral 0) (λ x. x ≡ n) (whole n) (λ t e. record { value = n; is = (decimal n, e, is_read (decimal n) 0 n (whole_is_read n h)); good = refl })

  -- ---- hop limits

  limit-word : (limit : Option ℕ) → IsLimit limit → (t : Placed) → t.is ≡ limit_token limit → IsLimitWord t limit
  limit-word None h t e = e
  limit-word (Some n) h t e = (decimal n, e, is_read (decimal n) 0 n (whole_is_read n h))

  -- the token that is written of a hop limit, or of none, stands for it
  pub reads_hops : (limit : Option ℕ) → IsLimit limit → Reads IsHopLimit (λ x. x ≡ limit) (limit_token limit ∷ [])
  reads_hops limit h = reads_token IsLimitWord (λ x. x ≡ limit) (limit_token limit) (λ t e. record { value = limit; is = limit-word limit h t e; good = refl })

  -- ---- modules

  modules-read : (all before more : List (ℕ × ℕ)) → All IsModule more → before ++ more ≡ all
      → Reads (Items BeginsModule ModuleForm before) (λ x. x ≡ all) (module_tokens more ++ close_bracket ∷ [])
  modules-read all before [] good e =
      reads_end BeginsModule ModuleForm (λ x. x ≡ all) before close_bracket (λ t is. is) (sym (append-nil before) ∙ e)
  modules-read all before (m ∷ more) good e =
      let here = All-head IsModule m more good in
      let both : before ++ (m.0, m.1) ∷ more ≡ all = e in
      reads_item BeginsModule ModuleForm (λ x. x ≡ all) (λ x. x ≡ before ++ (m.0, m.1) ∷ []) before (grains m.0) m.0 (grains m.1 ∷ []) (module_tokens more ++ close_bracket ∷ [])
      (λ t is. (grains_text m.0 6, is, is_read (grains_text m.0 6) 6 m.0 (back m.0 6 (omega arith) here.0)))
      (reads_last (IsNumber 6) (λ cost. before ++ (m.0, cost) ∷ []) (λ x. x ≡ m.1) (λ x. x ≡ before ++ (m.0, m.1) ∷ []) (grains m.1 ∷ []) (reads_grains m.1 here.1) (λ cost same. ap (λ (c : ℕ). before ++ (m.0, c) ∷ []) same))
      (λ next same. modules-read all next more (All-tail IsModule m more good) (ap (λ (ms : List (ℕ × ℕ)). ms ++ more) same ∙ append_assoc before ((m.0, m.1) ∷ []) more ∙ both))

  -- the tokens of modules, and the Close behind them, stand for these modules
  pub reads_modules : (modules : List (ℕ × ℕ)) → All IsModule modules → Reads ModulesForm (λ x. x ≡ modules) (module_tokens modules ++ close_bracket ∷ [])
  reads_modules modules good = modules-read modules [] modules good refl

  module _ (nodes : List NodeRecord) (good : All IsGoodNode nodes) (apart : AreDifferent (node_names nodes)) where
    -- the name of a node stands for an end that is this node
    pub reads_end_name : (id : NodeId) → id.0 < length nodes → Reads IsEnd (λ e. IsNode (node_names nodes) e id) (end_token nodes id ∷ [])
    reads_end_name id within =
        reads_token IsEndName (λ e. IsNode (node_names nodes) e id) (end_token nodes id) (λ t is. record {
          value = record { at = t.at; name = name_at nodes id };
          is = (is, refl, (good_name nodes id.0 good within).short);
          good = ap (option_map node_id) (node_of nodes id apart within);
        })

    reads_ends : (source target : NodeId) → source.0 < length nodes → target.0 < length nodes
        → Reads EndsForm (λ x. IsNode (node_names nodes) x.0 source × IsNode (node_names nodes) x.1 target) (open_bracket ∷ end_token nodes source ∷ end_token nodes target ∷ close_bracket ∷ [])
    reads_ends source target s t =
        reads_then _ _ _ _ _ _ reads_open (λ _ _.
        reads_then _ _ _ _ _ _ (reads_end_name source s) (λ a is_source.
        reads_then _ _ _ _ _ _ (reads_end_name target t) (λ b is_target.
        reads_last _ _ _ _ _ reads_close (λ _ _. (is_source, is_target)))))

    reads_costs : (l : LinkRecord) → IsGoodLink (length nodes) l → Reads CostsForm (λ n. n ≡ (l.pre, l.pre_cost, l.routing, l.setup)) (grains l.pre ∷ grains l.pre_cost ∷ grains l.routing ∷ grains l.setup ∷ open_bracket ∷ [])
    reads_costs l h =
        reads_then _ _ _ _ _ _ (reads_grains l.pre h.pre) (λ pre a.
        reads_then _ _ _ _ _ _ (reads_grains l.pre_cost h.pre_cost) (λ pre_cost b.
        reads_then _ _ _ _ _ _ (reads_grains l.routing h.routing) (λ routing c.
        reads_then _ _ _ _ _ _ (reads_grains l.setup h.setup) (λ setup d.
        reads_last _ _ _ _ _ reads_open (λ _ _. rw (a, b, c, d) refl)))))

    -- a link behind its name
    pub reads_link : (l : LinkRecord) → IsGoodLink (length nodes) l
        → Reads LinkForm (λ (part : LinkDraft). IsLinkOf (node_names nodes) (record { name = l.name; part = part }) l)
        (open_bracket ∷ end_token nodes l.source ∷ end_token nodes l.target ∷ close_bracket ∷ grains l.pre ∷ grains l.pre_cost ∷ grains l.routing ∷ grains l.setup ∷ open_bracket ∷ (module_tokens l.modules ++ close_bracket ∷ []))
    reads_link l h =
        reads_then _ _ _ _ _ _ (reads_ends l.source l.target h.source h.target) (λ x are.
        reads_then _ _ _ _ _ _ (reads_costs l h) (λ n same.
        reads_last _ _ _ _ _ (reads_modules l.modules h.modules) (λ modules are_modules. record {
          name = refl;
          source = are.0;
          target = are.1;
          pre = sym (ap (λ (m : ℕ × ℕ × ℕ × ℕ). m.0) same);
          pre_cost = sym (ap (λ (m : ℕ × ℕ × ℕ × ℕ). m.1) same);
          routing = sym (ap (λ (m : ℕ × ℕ × ℕ × ℕ). m.2) same);
          setup = sym (ap (λ (m : ℕ × ℕ × ℕ × ℕ). m.3) same);
          modules = sym are_modules;
        })))

    -- a demand behind its name
    pub reads_demand : (d : DemandRecord) → IsGoodDemand (length nodes) d
        → Reads DemandForm (λ (part : DemandDraft). IsDemandOf (node_names nodes) (record { name = d.name; part = part }) d)
        (open_bracket ∷ end_token nodes d.source ∷ end_token nodes d.target ∷ close_bracket ∷ whole d.unit ∷ grains d.value ∷ limit_token d.hops ∷ [])
    reads_demand d h =
        reads_then _ _ _ _ _ _ (reads_ends d.source d.target h.source h.target) (λ x are.
        reads_then _ _ _ _ _ _ (reads_whole d.unit h.unit) (λ unit is_unit.
        reads_then _ _ _ _ _ _ (reads_grains d.value h.value) (λ value is_value.
        reads_last _ _ _ _ _ (reads_hops d.hops h.hops) (λ hops are_hops. record {
          name = refl;
          source = are.0;
          target = are.1;
          unit = sym is_unit;
          value = sym is_value;
          hops = sym are_hops;
        }))))
