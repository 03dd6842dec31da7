-- The keys that state a history, and which keys state none.
use Rattle.std.proofs.Common.{◌≡◌, ◌≢◌, ◌⊎◌, ⊎_elim, ℕ, ◌+◌, ◌-◌, ◌<◌, ◌≤◌, ◌^◌, List, [], ◌∷◌, ◌++◌, map, length, Some, refl, sym, ap, ap₂, ◌∙◌, subst, arith, decimal}
use Rattle.std.specs.List.{AllByRecursion}
use Rattle.std.proofs.lemmas.List.{length-map}
use Rattle.serde_json.specs.Data.{Data}
use Rattle.base_model.specs.Text.{Text, In}
use Rattle.base_model.specs.Fields.{Field, by_key}
use Rattle.base_model.specs.InfoFiles.{AreFrom}
use Rattle.repo_ini.proofs.Steps.{each_push}
use Rattle.repo_keys.specs.declared.fault.PartsFault.{PartsFault}
use Rattle.repo_keys.specs.declared.fault.PartsFault.TheVariants.{Form, NoMemory}
use Rattle.repo_keys.specs.Fault.{IfForm}
use Rattle.repo_keys.specs.Agree.{db_history, IsOrdered}
use Rattle.repo_info.specs.History.{AreNumbered, IsHistory, IsWrongHistory}
use Rattle.repo_keys.proofs.Forms.{form_as}
use Rattle.repo_keys.proofs.Numbers.{all_in, in_map, map_in, same_digits, entry_at, id_low, unique_id, get_in, read_at, from_push}
use Rattle.repo_keys.proofs.Sorted.{by_key_in, in_by_key, length_by_key, same_list}
use Rattle.repo_keys.proofs.ByKey.{history_rules}

module _ {X : Type 0} (IsOne : X → Type 0) (number : X → ℕ) (field : X → Field) where
  -- so far: the first clusters, which the keys state
  pub record SoFar (current : X) (ks : List Field) (xs : List X) : Type 0 where
    pub clusters : AllByRecursion IsOne xs
    pub numbers : AreFrom 1 (map number xs)
    pub found : AllByRecursion (λ c. In (field c) ks) xs
    pub alike : AllByRecursion (λ c. number c ≡ number current → c ≡ current) xs

  pub none_yet : (current : X) (ks : List Field) → SoFar current ks []
  none_yet current ks = record { clusters = tt; numbers = tt; found = tt; alike = tt }

module _ {X : Type 0} (IsOne : X → Type 0) (number : X → ℕ) (field : X → Field) (laws : AreNumbered IsOne number field) where
  -- ---- what is wrong

  module _ (current : X) (least : ℕ) (ks : List Field) where
    abbrev History : List X → Type 0
    History h = IsHistory IsOne number field current least (length ks) h

    abbrev pub WrongAt : Text → Type 0
    WrongAt key = IsWrongHistory IsOne number field current least ks key

    high_in : (n : ℕ) (h : List X) → (n ≤ length ks) ⊎ (n ≤ least) → History h → n ≤ length h
    high_in n h high is = ⊎_elim (λ (few : n ≤ length ks). let long = is.long in omega (arith, long)) (λ (few : n ≤ least). let long = is.within in omega (arith, long)) high

    named_as : (n : ℕ) (c : X) → number c ≡ n → (field c).0 ≡ decimal n
    named_as n c same = laws.named c ∙ ap decimal same

    -- a number that the history has is no key
    pub missing : (n : ℕ) → 1 ≤ n → (n ≤ length ks) ⊎ (n ≤ least) → ((d : Data) → ¬ In (decimal n, d) ks) → WrongAt (decimal n)
    missing n low high none h is agree =
        let within = high_in n h high is in
        let (c, i, same) = entry_at number h 1 n is.numbers low (omega (arith, within)) in
        let there = by_key_in (map field h) (field c) (in_map field h c i) in
        none (field c).1 (agree.there (field c).1 (subst (λ (k : Text). In (k, (field c).1) (by_key (map field h))) (named_as n c same) there))

    -- no history has this many clusters
    pub too_many : (n : ℕ) → 1 ≤ n → (n ≤ length ks) ⊎ (n ≤ least) → (n < 2 ^ 32 → ⊥) → WrongAt (decimal n)
    too_many n low high far h is agree =
        let within = high_in n h high is in
        let (c, i, same) = entry_at number h 1 n is.numbers low (omega (arith, within)) in
        far (subst (λ (k : ℕ). k < 2 ^ 32) same (laws.small c (all_in IsOne h c is.clusters i)))

    of_history : (h : List X) (z : Field) → In z (by_key (map field h)) → (c : X) × In c h × (z ≡ field c)
    of_history h z i = map_in field h z (in_by_key (map field h) z i)

    -- no cluster has this key with this value
    pub strange : (key : Text) (d : Data) → In (key, d) ks → ((c : X) → IsOne c → 1 ≤ number c → (let f : Field = (key, d) in f) ≢ field c) → WrongAt key
    strange key d there none h is agree =
        let (c, i, same) = of_history h (key, d) (agree.back d there) in
        none c (all_in IsOne h c is.clusters i) (id_low number h 1 c is.numbers i) same

    same_number : (n : ℕ) (c : X) (d : Data) → n < 2 ^ 32 → IsOne c → (let f : Field = (decimal n, d) in f) ≡ field c → n ≡ number c
    same_number n c d fits rules same = same_digits n (number c) fits (laws.small c rules) (ap (λ (k : Field). k.0) same ∙ laws.named c)

    -- no cluster of this number has the value
    pub other_value : (n : ℕ) (d : Data) → n < 2 ^ 32 → In (decimal n, d) ks → ((c : X) → IsOne c → number c ≡ n → d ≢ (field c).1) → WrongAt (decimal n)
    other_value n d fits there none h is agree =
        let (c, i, same) = of_history h (decimal n, d) (agree.back d there) in
        let rules = all_in IsOne h c is.clusters i in
        none c rules (sym (same_number n c d fits rules same)) (ap (λ (k : Field). k.1) same)

    -- the number is the current one, and the cluster isn't the current one
    pub other_current : (e : X) (d : Data) → IsOne e → number e ≡ number current → ¬ (e ≡ current) → d ≡ (field e).1 → In (decimal (number e), d) ks → WrongAt (decimal (number e))
    other_current e d rules same apart value there h is agree =
        let (c, i, found) = of_history h (decimal (number e), d) (agree.back d there) in
        let named : decimal (number e) ≡ (field e).0 = sym (laws.named e) in
        let whole : (let f : Field = (decimal (number e), d) in f) ≡ field e = ap₂ (λ (k : Text) (x : Data). let g : Field = (k, x) in g) named value in
        let of_e : c ≡ e = laws.one c e (all_in IsOne h c is.clusters i) rules (sym found ∙ whole) in
        let at : c ≡ current = unique_id number h 1 c current is.numbers i (get_in number h (number current - 1) current is.at) (ap number of_e ∙ same) in
        apart (sym of_e ∙ at)

    abbrev pub Wrong : Text → Text → Type 0
    Wrong = λ section key. (section ≡ db_history) × WrongAt key

    pub known : (e : PartsFault) (given key : Text) → IfForm e (λ s k. (s ≡ db_history) × (k ≡ given)) → given ≡ key → WrongAt key → IfForm e Wrong
    known e given key h same wrong = form_as e db_history given Wrong h (refl, subst WrongAt (sym same) wrong)

  module _ (key : Text) (d : Data) where
    abbrev pub Strange : Text → Text → Type 0
    Strange = λ section k. (section ≡ db_history) × (k ≡ key) × ((c : X) → IsOne c → 1 ≤ number c → (let f : Field = (key, d) in f) ≢ field c)

    -- a key of another number than the value's cluster would have
    pub strange_value : (e : PartsFault) (id : ℕ) → IfForm e (λ s k. (s ≡ db_history) × (k ≡ key)) → key ≡ decimal id → id < 2 ^ 32 → ((c : X) → IsOne c → number c ≡ id → d ≢ (field c).1) → IfForm e Strange
    strange_value e id h digits fits none = form_as e db_history key Strange h (
      refl,
      refl,
      λ c rules low same. none c rules (same_digits (number c) id (laws.small c rules) fits (sym (laws.named c) ∙ sym (ap (λ (k : Field). k.0) same) ∙ digits)) (ap (λ (k : Field). k.1) same),
    )

    -- a key that is in no history
    pub strange_key : (e : PartsFault) → IfForm e (λ s k. (s ≡ db_history) × (k ≡ key)) → ((n : ℕ) → n < 2 ^ 32 → 1 ≤ n → key ≢ decimal n) → IfForm e Strange
    strange_key e h none = form_as e db_history key Strange h (refl, refl, λ c rules low same. none (number c) (laws.small c rules) low (ap (λ (k : Field). k.0) same ∙ laws.named c))

  pub strange_here : (current : X) (least : ℕ) (ks : List Field) (e : PartsFault) (key : Text) (d : Data) → IfForm e (Strange key d) → In (key, d) ks → IfForm e (Wrong current least ks)
  strange_here current least ks (Form s k) key d h there = (h.0, subst (WrongAt current least ks) (sym h.1) (strange current least ks key d there h.2))
  strange_here current least ks NoMemory key d h there = tt

  -- ---- one cluster more

  pub one_more : (current : X) (ks : List Field) (xs : List X) (c : X) (n : ℕ) → SoFar IsOne number field current ks xs → n ≡ length xs + 1
      → (number c ≡ n) × IsOne c × In (field c) ks × (n ≡ number current → c ≡ current) → SoFar IsOne number field current ks (xs ++ c ∷ [])
  one_more current ks xs c n h next is = record {
    clusters = each_push IsOne xs c h.clusters is.1;
    numbers = from_push number xs 1 c h.numbers (let e = is.0 in omega (arith, e, next));
    found = each_push (λ c. In (field c) ks) xs c h.found is.2;
    alike = each_push (λ c. number c ≡ number current → c ≡ current) xs c h.alike (λ same. is.3 (sym is.0 ∙ same));
  }

  -- ---- all of them

  field_in : (ks : List Field) (xs : List X) → AllByRecursion (λ c. In (field c) ks) xs → (z : Field) → In z (by_key (map field xs)) → In z ks
  field_in ks xs found z i =
      let (c, j, e) = map_in field xs z (in_by_key (map field xs) z i) in
      subst (λ (w : Field). In w ks) (sym e) (all_in (λ c. In (field c) ks) xs c found j)

  small : (c : X) → IsOne c → number c < 2 ^ 64
  small c h = let few = laws.small c h in omega (arith, few)

  pub history_order : (xs : List X) → 0 < length xs → AllByRecursion IsOne xs → AreFrom 1 (map number xs) → IsOrdered (by_key (map field xs))
  history_order xs some clusters numbers = (history_rules IsOne number field laws.named small laws.key xs some clusters numbers).order

  module _ (current : X) (least : ℕ) (ks : List Field) (xs : List X) (h : SoFar IsOne number field current ks xs) (order : IsOrdered ks) (low : 1 ≤ number current) (under : number current ≤ least) (long : length ks ≤ length xs) (within : least ≤ length xs) where
    pub has_keys : ks ≡ by_key (map field xs)
    has_keys =
        let ys = by_key (map field xs) in
        let ordered = history_order xs (omega (arith, low, under, within)) h.clusters h.numbers in
        let count = length_by_key (map field xs) ∙ length-map xs field in
        same_list (λ (k : Field). k.0) [] [] ks ys order ordered (field_in ks xs h.found) (omega (arith, count, long))

    pub is_history : IsHistory IsOne number field current least (length ks) xs
    is_history =
        let (c, is, i, same) = read_at number xs 1 (number current) h.numbers low (omega (arith, under, within)) in
        let alike : c ≡ current = all_in (λ c. number c ≡ number current → c ≡ current) xs c h.alike i same in
        record { clusters = h.clusters; numbers = h.numbers; at = is ∙ ap (λ (e : X). Some e) alike; within = within; long = long }
