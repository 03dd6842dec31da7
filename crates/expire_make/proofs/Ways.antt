-- From the calls of an expiry to what it does to the repository.
use Rattle.std.proofs.Common.{◌≡◌, ◌⊎◌, ⊎_elim, inl, inr, ℕ, ◌≤◌, List, [], ◌∷◌, map, Option, Some, None, refl, ap, ◌∙◌, sym, subst, arith, false}
use Rattle.std.specs.Prelude.{IsSome, IfSome, IsTrue, filter, not}
use Rattle.base_devices.specs.Content.{Name, Value, Content, Holds, is_below}
use Rattle.base_devices.specs.Moments.{View, GrowsBy, IsImage, MayKeep, is_unsynced}
use Rattle.base_devices.specs.Crash.{Crash, Ends, NowChanges, FirstOf, AllOf}
use Rattle.base_disk.specs.Dropped.{IsAbsent}
use Rattle.base_disk.proofs.Images.{Law}
use Rattle.base_devices.proofs.Nows.{known_as}
use Rattle.base_model.specs.declared.labels.Label.{Label}
use Rattle.base_model.specs.Text.{Text, In}
use Rattle.base_model.specs.Names.{archive_folder, archive_info, backup_info}
use Rattle.base_model.specs.Values.{ArchiveInfo, BackupInfo, Entry}
use Rattle.base_model.specs.InfoFiles.{IsBackupText}
use Rattle.base_model.specs.Create.{member_writes}
use Rattle.base_model.specs.Repository.{Archived, Backup, Stanza, current_number, identity_of, IsSoundStanza}
use Rattle.base_model.specs.Represents.{Represents, HasStanza, archive_value, backup_value}
use Rattle.base_model.specs.Steps.{Step, Condemn, Retention, IsPartOf, IsSomeOf, changed, after, all_of, expiry_moves}
use Rattle.base_model.specs.Steady.{IsSteady, EachImage}
use Rattle.base_model.proofs.Done.{part_none}
use Rattle.repo_info.proofs.OneArchive.{one_archive_pair}
use Rattle.repo_stanza.proofs.Settled.{settled_list}
use Rattle.repo_text_lemmas.proofs.Lists.{one_list}
use Rattle.expire_rules.specs.declared.rules.Rules.{Rules}
use Rattle.expire_rules.specs.Labels.{labels_of}
use Rattle.expire_rules.specs.Condemned.{is_condemned}
use Rattle.expire_make.specs.Expiry.{listed, retention, IsPartOfExpiry}
use Rattle.expire_make.specs.Losing.{Loses, LosesAll, IsUnlisted, IsUnneeded}
use Rattle.expire_make.specs.Planning.{IsPlan, left_of, list_text, keeps_by}
use Rattle.expire_make.specs.Unneeded.{ids_in}
use Rattle.expire_rules.proofs.Lists.{map_filter}
use Rattle.repo_keys.proofs.Numbers.{in_map}
use Rattle.expire_rules.proofs.LabelTests.{in_has}
use Rattle.expire_make.proofs.CondemnedRepresents.{IsClosed, condemned_moves, condemned_steady}
use Rattle.expire_make.proofs.Dropped.{Covers, dropped_moves, dropped_steady}
use Rattle.expire_make.proofs.Forgets.{groups}
use Rattle.expire_make.proofs.Forgotten.{forgotten_moves, forgotten_steady}
use Rattle.expire_make.proofs.RetentionHolds.{closed_here}
use Rattle.expire_make.proofs.Emptied.{all_ends}

-- ---- ways of a command, one after the other

either : (t s : ℕ) → (t ≤ s) ⊎ (s ≤ t)
either t s = grind arith

pub moves_on : (stanza : Text) (P : Content → Type 0) (a b c : View) → EachImage stanza P a b → EachImage stanza P b c → EachImage stanza P a c
moves_on stanza P a b c p q = record {
  later = omega (arith, p.later, q.later);
  past = λ t n v le k. p.past t n v le (q.past t n v (omega (arith, le, p.later)) k);
  past_unsynced = λ t n le. q.past_unsynced t n (omega (arith, le, p.later)) ∙ p.past_unsynced t n le;
  known = q.known;
  fixed = q.fixed;
  places = q.places;
  leaves = λ t g lo hi leaves. ⊎_elim (λ now. q.leaves c.moment g q.later (omega arith) (inl now))
      (λ (image : IsImage c t g). ⊎_elim
      (λ (le : t ≤ b.moment). p.leaves t g lo le (inr (λ n. ⊎_elim (λ k. inl (q.past t n (g n) le k)) (λ l. inr (sym (q.past_unsynced t n le) ∙ l.0, l.1)) (image n))))
      (λ (ge : b.moment ≤ t). q.leaves t g ge hi (inr image))
      (either t b.moment)) leaves;
}

pub moves_as : (stanza : Text) (P Q : Content → Type 0) (a b : View) → ((g : Content) → P g → Q g) → EachImage stanza P a b → EachImage stanza Q a b
moves_as stanza P Q a b wider p = record { later = p.later; past = p.past; past_unsynced = p.past_unsynced; known = p.known; fixed = p.fixed; places = p.places; leaves = λ t g lo hi leaves. wider g (p.leaves t g lo hi leaves) }

-- ---- what was planned

module _ (stanza : Text) (rules : Rules) (moment : ℕ) (f : Content) (labels : List Label) (w : BackupInfo) (archive : ArchiveInfo) (plan : IsPlan stanza rules moment f labels w archive) where
  module _ (s : Stanza) (h : HasStanza stanza f s) where
    abbrev left : Stanza
    left = changed (Condemn (is_condemned rules moment (listed s))) s

    list_is : plan.list ≡ backup_value s None
    list_is = settled_list stanza f archive plan.has.pairs.archive one_list plan.has.backup plan.list plan.has.pairs.backup plan.has.settles s h

    pub entries_are : plan.list.backups ≡ listed s
    entries_are = ap (λ (v : BackupInfo). v.backups) list_is

    -- what is left is the value of the stanza that is left
    left_is : w ≡ backup_value left None
    left_is = plan.is_left ∙ ap (left_of rules moment) list_is ∙ ap (λ (es : List Entry). (let v : BackupInfo = record { current = current_number s; history = s.history; backups = es } in v))
        (sym (map_filter (λ (b : Backup). b.entry) (λ (e : Entry). not (is_condemned rules moment (listed s) e.label)) s.backups))

    pub text_is : IsBackupText (backup_value left None) (list_text w)
    text_is = subst (λ (v : BackupInfo). IsBackupText v (list_text w)) left_is plan.fits

    pub left_entries : w.backups ≡ listed left
    left_entries = ap (λ (v : BackupInfo). v.backups) left_is

    pub covers : Covers (labels_of w.backups) left
    covers b at = in_has (labels_of w.backups) b.entry.label (subst (λ (es : List Entry). In b.entry.label (labels_of es)) (sym left_entries) (in_map (λ (e : Entry). e.label) (listed left) b.entry (in_map (λ (b : Backup). b.entry) left.backups b at)))

    archive_is : archive ≡ archive_value s
    archive_is = one_archive_pair f (archive_info stanza) archive (archive_value s) plan.has.pairs.archive h.archive_pair

    pub current_is : archive.current ≡ current_number left
    current_is = ap (λ (v : ArchiveInfo). v.current) archive_is

    pub history_is : archive.history ≡ map identity_of s.history
    history_is = ap (λ (v : ArchiveInfo). v.history) archive_is

-- ---- the whole way

module _ (stanza : Text) (rules : Rules) (moment : ℕ) (labels : List Label) (w : BackupInfo) (archive : ArchiveInfo) (s : Stanza) where
  abbrev kept : Retention
  kept = retention rules moment

  abbrev rest_of : Stanza
  rest_of = changed (Condemn (is_condemned rules moment (listed s))) s

  abbrev xs : List Archived
  xs = filter (λ a. not ((retention rules moment).needed (changed (Condemn (is_condemned rules moment (listed s))) s) a)) s.archived

  -- ---- parts

  pub at_start : (g : Content) → Represents stanza g (Some s) → IsPartOfExpiry stanza (retention rules moment) s g
  at_start g h = ([], part_none (expiry_moves kept s), h)

  pub some_forgotten : (rest : List Step) → IsSomeOf rest (groups xs) → IsPartOf (Condemn (kept.condemned s) ∷ rest) (expiry_moves kept s)
  some_forgotten rest is = inr (rest, refl, inl is)

  pub none_of : (ys : List Archived) → IsSomeOf [] (groups ys)
  none_of [] = refl
  none_of (y ∷ ys) = inl (none_of ys)

  condemned : (g : Content) → Represents stanza g (Some rest_of) → IsPartOfExpiry stanza (retention rules moment) s g
  condemned g h = (Condemn (kept.condemned s) ∷ [], some_forgotten [] (none_of xs), h)

  forgotten : (g : Content) → ((done : List Step) × IsSomeOf done (groups xs) × Represents stanza g (after (Some rest_of) done)) → IsPartOfExpiry stanza (retention rules moment) s g
  forgotten g x = (Condemn (kept.condemned s) ∷ x.0, some_forgotten x.0 x.1, x.2)

  -- which files aren't kept is the same for what was planned
  module _ (es : List Entry) (entries : es ≡ listed (changed (Condemn (is_condemned rules moment (listed s))) s)) (number : archive.current ≡ current_number (changed (Condemn (is_condemned rules moment (listed s))) s)) where
    pub same_unneeded : (Step : (Content → Content → Type 0) → Type 0) → Step (Loses (IsUnneeded stanza (keeps_by rules archive.current es))) → Step (Loses (IsUnneeded stanza (keeps_by rules (current_number rest_of) (listed rest_of))))
    same_unneeded Step x = subst (λ (k : List Entry). Step (Loses (IsUnneeded stanza (keeps_by rules (current_number rest_of) k)))) entries (subst (λ (n : ℕ). Step (Loses (IsUnneeded stanza (keeps_by rules n es)))) number x)

    pub all_unneeded : (Step : (Content → Content → Type 0) → Type 0) → Step (LosesAll (IsUnneeded stanza (keeps_by rules archive.current es))) → Step (LosesAll (IsUnneeded stanza (keeps_by rules (current_number rest_of) (listed rest_of))))
    all_unneeded Step x = subst (λ (k : List Entry). Step (LosesAll (IsUnneeded stanza (keeps_by rules (current_number rest_of) k)))) entries (subst (λ (n : ℕ). Step (LosesAll (IsUnneeded stanza (keeps_by rules n es)))) number x)

  -- ---- what may be rest_of

  module _ (a : View) (steady : IsSteady stanza (Some s) a) (sound : IsSoundStanza s) (known : IsSome a.now) (plan : IfSome a.now (λ f. IsPlan stanza rules moment f labels w archive)) where
    start : (f : Content) × (a.now ≡ Some f)
    start = known_as a.now known

    planned : IsPlan stanza rules moment start.0 labels w archive
    planned = let P : Option Content → Type 0 = λ o. IfSome o (λ f. IsPlan stanza rules moment f labels w archive) in let at : P (Some start.0) = subst P start.1 plan in at

    has : HasStanza stanza start.0 s
    has = steady.represents start.0 (inl start.1)

    closed : IsClosed s (is_condemned rules moment (listed s))
    closed = closed_here stanza rules moment start.0 s has

    module _ (b : View) (saved : Crash (FirstOf (member_writes (backup_info stanza) (list_text w))) a b) where
      pub saved_moves : EachImage stanza (IsPartOfExpiry stanza (retention rules moment) s) a b
      saved_moves = moves_as stanza (λ g. Represents stanza g (Some s) ⊎ Represents stanza g (Some rest_of)) (IsPartOfExpiry stanza kept s) a b (λ g h. ⊎_elim (at_start g) (condemned g) h)
          (condemned_moves stanza (list_text w) s (is_condemned rules moment (listed s)) closed None tt (text_is stanza rules moment start.0 labels w archive planned s has) a b steady known saved)

      module _ (saved_all : Ends (AllOf (member_writes (backup_info stanza) (list_text w))) a b) where
        steady_b : IsSteady stanza (Some rest_of) b
        steady_b = condemned_steady stanza (list_text w) s (is_condemned rules moment (listed s)) closed None tt (text_is stanza rules moment start.0 labels w archive planned s has) a b steady known saved saved_all

        known_b : IsSome b.now
        known_b = saved.known known

        module _ (c : View) (lost : Crash (Loses (IsUnlisted stanza (labels_of w.backups))) b c) where
          covers_left : Covers (labels_of w.backups) rest_of
          covers_left = covers stanza rules moment start.0 labels w archive planned s has

          pub lost_moves : EachImage stanza (IsPartOfExpiry stanza (retention rules moment) s) a c
          lost_moves = moves_on stanza (IsPartOfExpiry stanza kept s) a b c saved_moves
              (moves_as stanza (λ g. Represents stanza g (Some rest_of)) (IsPartOfExpiry stanza kept s) b c condemned (dropped_moves stanza (labels_of w.backups) rest_of covers_left b c steady_b known_b lost))

          steady_c : IsSteady stanza (Some rest_of) c
          steady_c = dropped_steady stanza (labels_of w.backups) rest_of covers_left b c steady_b known_b lost

          known_c : IsSome c.now
          known_c = lost.known known_b

          module _ (d : View) (gone : Crash (Loses (IsUnneeded stanza (keeps_by rules archive.current w.backups))) c d) where
            gone_left : Crash (Loses (IsUnneeded stanza (keeps_by rules (current_number rest_of) (listed rest_of)))) c d
            gone_left = same_unneeded w.backups (left_entries stanza rules moment start.0 labels w archive planned s has) (current_is stanza rules moment start.0 labels w archive planned s has) (λ S. Crash S c d) gone

            pub gone_moves : EachImage stanza (IsPartOfExpiry stanza (retention rules moment) s) a d
            gone_moves = moves_on stanza (IsPartOfExpiry stanza kept s) a c d lost_moves
                (moves_as stanza (λ g. (done : List Step) × IsSomeOf done (groups xs) × Represents stanza g (after (Some rest_of) done)) (IsPartOfExpiry stanza kept s) c d forgotten
                (forgotten_moves stanza (keeps_by rules (current_number rest_of) (listed rest_of)) rest_of sound.apart c d steady_c known_c gone_left))

            pub gone_steady : Law c → GrowsBy (λ n v. IsUnneeded stanza (keeps_by rules archive.current w.backups) n × (v ≡ None)) (λ _. ⊥) c d → NowChanges (Loses (IsUnneeded stanza (keeps_by rules archive.current w.backups))) c.now d.now
                → ((n : Name) → (u : IsUnneeded stanza (keeps_by rules archive.current w.backups) n) → In u.id (ids_in archive.history) → IsAbsent d.now n)
                → ((n : Name) (v : Value) → IsTrue (is_below (archive_folder stanza) n) → is_unsynced c n ≡ false → MayKeep d n v → Holds d.now n v) → IsSteady stanza (after (Some s) (all_of (expiry_moves (retention rules moment) s))) d
            gone_steady law goes part absent settled = forgotten_steady stanza (keeps_by rules (current_number rest_of) (listed rest_of)) rest_of sound.apart c d steady_c known_c gone_left
                (all_unneeded w.backups (left_entries stanza rules moment start.0 labels w archive planned s has) (current_is stanza rules moment start.0 labels w archive planned s has) (λ S. Ends S c d)
                (all_ends stanza (keeps_by rules archive.current w.backups) rest_of sound.ids archive.history (history_is stanza rules moment start.0 labels w archive planned s has) c d part absent steady_c law goes settled))
