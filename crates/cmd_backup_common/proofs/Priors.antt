-- The backup that a further one is based on, and the label that it then gets.
use Rattle.std.proofs.Common.{◌≡◌, ◌≢◌, ◌⊎◌, ⊎_elim, inl, inr, ◌<◌, ◌≤◌, ◌==◌, ℕ, zero, suc, Bool, true, false, List, [], ◌∷◌, ◌++◌, ◌+◌, length, map, take, get_or, Option, Some, None, refl, sym, ◌∙◌, ap, subst, arith}
use Rattle.std.specs.Prelude.{IfSome, IsSome, max, if◌then◌else◌, ◌&&◌, option_map}
use Rattle.std.specs.Option.{option_or}
use Rattle.std.proofs.Math.Nat.{max_comm, le-max_left, le-max_right}
use Rattle.std.proofs.lemmas.Bool.{eqb-true}
use Rattle.base_devices.specs.Order.{is_before}
use Rattle.base_devices.specs.States.{last_second}
use Rattle.base_model.specs.declared.labels.Entry as rust_entry
use Rattle.base_model.specs.declared.labels.BackupKind.{BackupKind}
use Rattle.base_model.specs.declared.labels.BackupKind.TheVariants.{Full, Diff, Incr}
use Rattle.base_model.specs.declared.labels.Label.{Label}
use Rattle.base_model.specs.declared.labels.Later.{Later}
use Rattle.base_model.specs.declared.wal.WalPart.{WalPart}
use Rattle.base_model.specs.Dates.{stamp}
use Rattle.base_model.specs.InfoFiles.{IsBackupInfo, IsLabel, label_kind}
use Rattle.base_model.specs.ManifestText.{IsWalPart, HasItsPrior}
use Rattle.base_model.specs.Names.{letter, label_text, later_text}
use Rattle.base_model.specs.Text.{Text, In}
use Rattle.base_model.specs.Values.{Entry, BackupInfo, entry_of}
use Rattle.backup_plan.proofs.Lists.{passed}
use Rattle.backup_record.specs.declared.manifest_record.Head.{Head}
use Rattle.backup_record.specs.Bounds.{MayFollow}
use Rattle.backup_record.specs.Making.{labels_of}
use Rattle.backup_record.proofs.Following.{label_of}
use Rattle.backup_record.proofs.Made.{in_map, of_map}
use Rattle.backup_record.proofs.Maps.{both}
use Rattle.cmd_backup_common.specs.Priors.{latest_full, bases, may_base, last_of, prior_for, made_label}
use Rattle.cmd_backup_common.specs.Seconds.{later_second, second_of, AreBefore, IsNext}
use Rattle.cmd_backup_common.proofs.Latest.{may_follow}
use Rattle.cmd_backup_common.proofs.StampOrder.{apart, rest_before, stamp_before}

-- ---- one value more

or_push : {X : Type 0} (b : Bool) (o p : Option X) (x : X) → option_or (if b then Some x else o) p ≡ (if b then Some x else option_or o p)
or_push true o p x = refl
or_push false o p x = refl

pub last_push : {X : Type 0} (test : X → Bool) (xs : List X) (x : X) → last_of test (xs ++ x ∷ []) ≡ (if test x then Some x else last_of test xs)
last_push test [] x = refl
last_push test (y ∷ xs) x = ap (λ (o : Option _). option_or o (if test y then Some y else None)) (last_push test xs x) ∙ or_push (test x) (last_of test xs) (if test y then Some y else None) x

swap : (a b c : ℕ) → max a (max b c) ≡ max b (max a c)
swap a b c = omega arith

pub latest_push : (es : List Entry) (e : Entry) → latest_full (es ++ e ∷ []) ≡ max e.label.full (latest_full es)
latest_push [] e = refl
latest_push (d ∷ es) e = ap (max d.label.full) (latest_push es e) ∙ swap d.label.full e.label.full (latest_full es)

-- a walk over a list of them
pub latest_passed : (listed : List rust_entry.Entry) (i : ℕ) (x : rust_entry.Entry) → i < length listed → x ≡ get_or listed i x → (latest : ℕ) → latest ≡ latest_full (map entry_of (take i listed)) → max x.label.full latest ≡ latest_full (map entry_of (take (i + 1) listed))
latest_passed listed i x less is latest before = ap (max x.label.full) before ∙ sym (latest_push (map entry_of (take i listed)) (entry_of x)) ∙ sym (ap latest_full (passed entry_of listed i x less is))

pub last_passed : (test : Entry → Bool) (listed : List rust_entry.Entry) (i : ℕ) (x : rust_entry.Entry) → i < length listed → x ≡ get_or listed i x → last_of test (map entry_of (take (i + 1) listed)) ≡ (if test (entry_of x) then Some (entry_of x) else last_of test (map entry_of (take i listed)))
last_passed test listed i x less is = ap (last_of test) (passed entry_of listed i x less is) ∙ last_push test (map entry_of (take i listed)) (entry_of x)

-- ---- what they are

in_or : {X : Type 0} (test : X → Bool) (xs : List X) (y x : X) → (last_of test xs ≡ Some x → In x xs × (test x ≡ true)) → last_of test (y ∷ xs) ≡ Some x → In x (y ∷ xs) × (test x ≡ true)
in_or {X} test xs y x rest is = by (last_of test xs) (test y) refl refl is
  where
    by : (o : Option X) (b : Bool) → last_of test xs ≡ o → test y ≡ b → option_or o (if b then Some y else None) ≡ Some x → In x (y ∷ xs) × (test x ≡ true)
    by (Some z) b at t k = let r = rest (at ∙ k) in (inr r.0, r.1)
    by None true at t k = let same : y ≡ x = (let e : ◌≡◌ {A = Option X} (Some y) (Some x) = k in cc) in (inl (sym same), subst (λ (z : X). test z ≡ true) same t)
    by None false at t k = absurd (let e : ◌≡◌ {A = Option X} None (Some x) = k in cc)

-- the last value that passes a test is one that does
pub last_in : {X : Type 0} (test : X → Bool) (xs : List X) (x : X) → last_of test xs ≡ Some x → In x xs × (test x ≡ true)
last_in {X} test [] x is = absurd (let e : ◌≡◌ {A = Option X} None (Some x) = is in cc)
last_in test (y ∷ xs) x is = in_or test xs y x (last_in test xs x) is

-- no label states a later full backup than the latest
pub full_below : (es : List Entry) (e : Entry) → In e es → e.label.full ≤ latest_full es
full_below [] e at = absurd at
full_below (d ∷ es) e at = ⊎_elim
    (λ (is : e ≡ d). let same = ap (λ (x : Entry). x.label.full) is in let up = le-max_left d.label.full (latest_full es) in omega (arith, same, up))
    (λ (k : In e es). let rest = full_below es e k in let up = le-max_right d.label.full (latest_full es) in omega (arith, rest, up))
    at

-- what is known of a prior
pub record IsPrior (kind : BackupKind) (cluster : ℕ) (es : List Entry) (e : Entry) : Type 0 where
  pub listed : In e es
  pub based : bases kind e.kind ≡ true
  pub db : e.db ≡ cluster
  pub full : e.label.full ≡ latest_full es

pub prior_is : (kind : BackupKind) (cluster : ℕ) (es : List Entry) (e : Entry) → prior_for kind cluster es ≡ Some e → IsPrior kind cluster es e
prior_is kind cluster es e is =
    let r = last_in (may_base kind cluster (latest_full es)) es e is in
    let x = both (bases kind e.kind && (e.db == cluster)) (e.label.full == latest_full es) r.1 in
    let y = both (bases kind e.kind) (e.db == cluster) x.0 in
    record { listed = r.0; based = y.0; db = eqb-true e.db cluster y.1; full = eqb-true e.label.full (latest_full es) x.1 }

-- ---- its label comes last

prefix_before : (p r s : Text) → is_before r s ≡ true → is_before (p ++ r) (p ++ s) ≡ true
prefix_before [] r s h = h
prefix_before (x ∷ p) r s h = rest_before x x (p ++ r) (p ++ s) refl (prefix_before p r s h)

later_before : (o : Option Later) (t : ℕ) (kind : BackupKind) (full : ℕ) → later_second full o < t → t ≤ last_second → is_before (later_text o) (later_text (Some (record { time = t; kind = kind }))) ≡ true
later_before None t kind full h last = refl
later_before (Some l) t kind full h last = rest_before 95 95 (stamp l.time ++ letter l.kind ∷ []) (stamp t ++ letter kind ∷ []) refl (stamp_before l.time t (letter l.kind ∷ []) (letter kind ∷ []) (let up = le-max_right full l.time in omega (arith, h, up)) last)

-- a label of the same full backup that states a later second comes later, and so does one of a later full backup
later_label : (l : Label) (full t : ℕ) (kind : BackupKind) → l.full ≤ full → full ≤ last_second → second_of l < t → t ≤ last_second → is_before (label_text l) (label_text (record { full = full; later = Some (record { time = t; kind = kind }) })) ≡ true
later_label l full t kind below within h last = ⊎_elim
    (λ (less : l.full < full). stamp_before l.full full (70 ∷ later_text l.later) (70 ∷ later_text (Some (record { time = t; kind = kind }))) less within)
    (λ (same : l.full ≡ full). subst (λ (n : ℕ). is_before (label_text l) (label_text (record { full = n; later = Some (record { time = t; kind = kind }) })) ≡ true) same
    (prefix_before (stamp l.full) (70 ∷ later_text l.later) (70 ∷ later_text (Some (record { time = t; kind = kind }))) (rest_before 70 70 (later_text l.later) (later_text (Some (record { time = t; kind = kind }))) refl (later_before l.later t kind l.full h last))))
    (apart l.full full below)

module _ (kind : BackupKind) (second cluster : ℕ) (list : BackupInfo) (rules : IsBackupInfo list) (next : IsNext second list) (e : Entry) (is : prior_for kind cluster list.backups ≡ Some e) where
  model : IsPrior kind cluster list.backups e
  model = prior_is kind cluster list.backups e is

  not_full : kind ≢ Full
  not_full full = let no : bases Full e.kind ≡ true = subst (λ (k : BackupKind). bases k e.kind ≡ true) full model.based in let u : ◌≡◌ {A = Bool} false true = no in cc

  within : e.label.full ≤ last_second
  within = (label_of _ list.backups e.label rules.backups (in_map (λ (x : Entry). x.label) e list.backups model.listed)).full

  abbrev label : Label
  label = record { full = e.label.full; later = Some (record { time = second; kind = kind }) }

  pub label_rules : IsLabel label
  label_rules = record { full = within; later = (next.in_range, not_full) }

  pub label_later : (l : Label) → In l (labels_of list.backups) → is_before (label_text l) (label_text label) ≡ true
  label_later l at =
      let r = of_map (λ (x : Entry). x.label) l list.backups at in
      let below = full_below list.backups r.0 r.1 in
      let same = ap (λ (x : Label). x.full) r.2 in
      let top = model.full in
      later_label l e.label.full second kind (omega (arith, below, same, top)) within (next.later l at) next.in_range

  pub label_prior : HasItsPrior (label_kind label) (Some e.label)
  label_prior = by kind not_full
    where
      by : (k : BackupKind) → k ≢ Full → HasItsPrior k (Some e.label)
      by Full not = absurd (not refl)
      by Diff not = refl
      by Incr not = refl

-- a backup whose label and prior are these may be listed after the others
pub may_follow_prior : (kind : BackupKind) (second : ℕ) (before : BackupInfo) (h : Head) → IsBackupInfo before → IsNext second before → In h.cluster before.history → h.label ≡ made_label kind (prior_for kind h.cluster.id before.backups) second
    → h.prior ≡ option_map (λ (e : Entry). e.label) (prior_for kind h.cluster.id before.backups) → h.wal ≡ None → h.start ≡ second → h.stop ≤ last_second → MayFollow h before
may_follow_prior kind second before h rules next cluster label prior wal start stop = by (prior_for kind h.cluster.id before.backups) refl label prior
  where
    by : (o : Option Entry) → prior_for kind h.cluster.id before.backups ≡ o → h.label ≡ made_label kind o second → h.prior ≡ option_map (λ (e : Entry). e.label) o → MayFollow h before
    by None is named prior = may_follow second before h next cluster named prior wal start stop
    by (Some e) is named prior = record {
      label = subst IsLabel (sym named) (label_rules kind second h.cluster.id before rules next e is);
      later = λ l at. ap (λ (m : Label). is_before (label_text l) (label_text m)) named ∙ label_later kind second h.cluster.id before rules next e is l at;
      prior = subst (λ (l : Label). HasItsPrior (label_kind l) h.prior) (sym named) (subst (λ (o : Option Label). HasItsPrior kind o) (sym prior) (label_prior kind second h.cluster.id before rules next e is));
      listed = subst (λ (o : Option Label). IfSome o (λ l. In l (labels_of before.backups))) (sym prior) (in_map (λ (x : Entry). x.label) e before.backups (prior_is kind h.cluster.id before.backups e is).listed);
      start = (let last = next.in_range in omega (arith, start, last));
      stop = stop;
      cluster = cluster;
      wal = subst (λ (o : Option WalPart). IfSome o IsWalPart) (sym wal) tt;
    }
