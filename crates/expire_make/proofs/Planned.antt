-- What is read, and what is left of it.
use Rattle.std.proofs.Common.{◌≡◌, inl, inr, ℕ, Bool, true, false, List, [], ◌∷◌, cond, Option, Some, None, refl, ap, ap₂, ◌∙◌, sym, subst}
use Rattle.std.specs.Prelude.{IfSome, filter, not}
use Rattle.std.proofs.lemmas.Bool.{false≢true, false_from_ne_true}
use Rattle.base_devices.specs.Content.{Content}
use Rattle.base_model.specs.declared.labels.Label.{Label}
use Rattle.base_model.specs.Text.{Text, In}
use Rattle.base_model.specs.Values.{ArchiveInfo, BackupInfo, Entry}
use Rattle.base_model.specs.InfoFiles.{IsArchiveText, IsBackupText}
use Rattle.base_model.specs.Pair.{PairIs}
use Rattle.expire_rules.specs.declared.rules.Rules.{Rules}
use Rattle.expire_rules.specs.Labels.{has_label, labels_of}
use Rattle.expire_rules.specs.Condemned.{is_condemned, condemned_labels}
use Rattle.base_model.specs.Names.{archive_info, backup_info}
use Rattle.repo_stanza.specs.declared.fault.StanzaFault.{StanzaFault}
use Rattle.repo_stanza.specs.Causes.{HistoriesDiffer}
use Rattle.repo_stanza.specs.Judging.{HasList, Validates, ShowsDifference}
use Rattle.expire_make.specs.declared.fault.ExpireFault.{ExpireFault}
use Rattle.expire_make.specs.Fault.{ExpireCause, fault_of_stanza}
use Rattle.expire_make.specs.Planning.{IsPlan, left_of}
use Rattle.expire_rules.proofs.Lists.{in_filter, filter_in}
use Rattle.repo_keys.proofs.Numbers.{in_map}
use Rattle.expire_rules.proofs.LabelTests.{has_in, in_has}

pub named_pair : (now : Option Content) (name info : Text) (v : BackupInfo) → name ≡ info → IfSome now (λ f. PairIs IsBackupText f name v) → IfSome now (λ f. PairIs IsBackupText f info v)
named_pair now name info v is h = subst (λ (n : Text). IfSome now (λ f. PairIs IsBackupText f n v)) is h

pub named_archive : (now : Option Content) (name info : Text) (v : ArchiveInfo) → name ≡ info → IfSome now (λ f. PairIs IsArchiveText f name v) → IfSome now (λ f. PairIs IsArchiveText f info v)
named_archive now name info v is h = subst (λ (n : Text). IfSome now (λ f. PairIs IsArchiveText f n v)) is h

pub filter_on : {X : Type 0} (p q : X → Bool) (xs : List X) → ((x : X) → In x xs → p x ≡ q x) → filter p xs ≡ filter q xs
filter_on p q [] same = refl
filter_on {X} p q (x ∷ xs) same = ap₂ (λ (b : Bool) (ys : List X). cond b (x ∷ ys) ys) (same x (inl refl)) (filter_on p q xs (λ y i. same y (inr i)))

-- all of a list pass
pub filter_all : {X : Type 0} (p : X → Bool) (xs : List X) → ((x : X) → In x xs → p x ≡ true) → filter p xs ≡ xs
filter_all p [] pass = refl
filter_all {X} p (x ∷ xs) pass = ap₂ (λ (b : Bool) (ys : List X). cond b (x ∷ ys) ys) (pass x (inl refl)) (filter_all p xs (λ y i. pass y (inr i)))

-- a label of a listed backup is among those that expire exactly where it expires
among : (p : Label → Bool) (es : List Entry) (e : Entry) → In e es → has_label (filter p (labels_of es)) e.label ≡ p e.label
among p es e at = by (p e.label) refl
  where
    by : (b : Bool) → p e.label ≡ b → has_label (filter p (labels_of es)) e.label ≡ b
    by true is = in_has (filter p (labels_of es)) e.label (filter_in p e.label (labels_of es) (in_map (λ (x : Entry). x.label) es e at) is)
    by false is = false_from_ne_true (has_label (filter p (labels_of es)) e.label) (λ on. false≢true (sym is ∙ (in_filter p e.label (labels_of es) (has_in (filter p (labels_of es)) e.label on)).1))

pub labels_gone : (rules : Rules) (moment : ℕ) (labels : List Label) (es fs : List Entry) → labels ≡ condemned_labels rules moment es → fs ≡ filter (λ e. not (has_label labels e.label)) es → fs ≡ filter (λ e. not (is_condemned rules moment es e.label)) es
labels_gone rules moment labels es fs are is = is ∙ ap (λ (ls : List Label). filter (λ e. not (has_label ls e.label)) es) are
    ∙ filter_on (λ e. not (has_label (condemned_labels rules moment es) e.label)) (λ e. not (is_condemned rules moment es e.label)) es (λ e at. ap not (among (is_condemned rules moment es) es e at))

pub value_left : (rules : Rules) (moment : ℕ) (v : BackupInfo) (es : List Entry) → es ≡ filter (λ e. not (is_condemned rules moment v.backups e.label)) v.backups → ◌≡◌ {A = BackupInfo} (record { current = v.current; history = v.history; backups = es }) (left_of rules moment v)
value_left rules moment v es is = ap (λ (xs : List Entry). (let w : BackupInfo = record { current = v.current; history = v.history; backups = xs } in w)) is

-- ---- what is planned for a disk

pub planned_at : (stanza : Text) (rules : Rules) (moment : ℕ) (labels : List Label) (w list : BackupInfo) (a b : ArchiveInfo) (now : Option Content) → IfSome now (λ f. HasList stanza f a list)
    → ((n : Text) (f : Content) → HasList n f a list → IsPlan n rules moment f labels w b) → IfSome now (λ f. IsPlan stanza rules moment f labels w b)
planned_at stanza rules moment labels w list a b None has plan = tt
planned_at stanza rules moment labels w list a b (Some f) has plan = plan stanza f has

pub have_list : (stanza : Text) (now : Option Content) (a : ArchiveInfo) (v w : BackupInfo) → IfSome now (λ f. PairIs IsArchiveText f (archive_info stanza) a) → IfSome now (λ f. PairIs IsBackupText f (backup_info stanza) v) → Validates a v w
    → IfSome now (λ f. HasList stanza f a w)
have_list stanza None a v w p q settles = tt
have_list stanza (Some f) a v w p q settles = record { backup = v; pairs = record { archive = p; backup = q }; settles = settles }

-- the histories that differ are those of the pairs
pub have_differ : (stanza : Text) (now : Option Content) (a : ArchiveInfo) (v : BackupInfo) → IfSome now (λ f. PairIs IsArchiveText f (archive_info stanza) a) → IfSome now (λ f. PairIs IsBackupText f (backup_info stanza) v) → (rose : Type 0) (e : StanzaFault) (fault : ExpireFault) → fault ≡ fault_of_stanza e → ShowsDifference a v e → ExpireCause stanza now rose fault
have_differ stanza now a v p q rose e fault is t = subst (ExpireCause stanza now rose) (sym (is ∙ ap fault_of_stanza t.is)) (by now p q)
  where
    by : (o : Option Content) → IfSome o (λ f. PairIs IsArchiveText f (archive_info stanza) a) → IfSome o (λ f. PairIs IsBackupText f (backup_info stanza) v) → IfSome o (λ f. HistoriesDiffer stanza f t.at)
    by None p q = tt
    by (Some f) p q = record { archive = a; backup = v; pairs = record { archive = p; backup = q }; differ = t.differ; settled = t.settled }
