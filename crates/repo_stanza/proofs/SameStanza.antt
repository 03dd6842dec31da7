-- A stanza that is there, as its pairs are mended.
use Rattle.std.proofs.Common.{◌≡◌, ◌≢◌, ◌⊎◌, inl, inr, ℕ, zero, suc, ◌-◌, ◌≤◌, List, [], ◌∷◌, map, length, Option, Some, None, refl, ap, ◌∙◌, sym, subst, arith, length-append}
use Rattle.std.specs.Prelude.{IfSome, IsSome, slice_get}
use Rattle.std.proofs.lemmas.List.{length-map}
use Rattle.base_devices.specs.Content.{Content}
use Rattle.base_devices.specs.Moments.{View, LeavesNoMore}
use Rattle.base_devices.specs.Crash.{Crash, NowChanges, SomeOf}
use Rattle.base_devices.proofs.Nows.{known_as}
use Rattle.base_model.specs.declared.clusters.Cluster.{Cluster}
use Rattle.base_model.specs.Text.{Text, In}
use Rattle.base_model.specs.Names.{archive_info, backup_info}
use Rattle.base_model.specs.Fields.{at_number}
use Rattle.base_model.specs.Values.{ArchiveInfo, BackupInfo, Entry}
use Rattle.base_model.specs.InfoText.{info_text}
use Rattle.base_model.specs.InfoFiles.{IsArchiveText, IsBackupText, backup_sections, entry_field}
use Rattle.base_model.specs.Pair.{PairIs}
use Rattle.base_model.specs.Repository.{Stanza, Backup, Repository, identity_of, current_number}
use Rattle.base_model.specs.Represents.{Represents, HasStanza, IsPending, archive_value, backup_value}
use Rattle.base_model.specs.Steps.{step, Create}
use Rattle.base_model.specs.Now.{NowRepresents}
use Rattle.base_model.specs.Steady.{IsSteady, EachImage}
use Rattle.base_model.proofs.Steady.{steady_rests, prefix_moves}
use Rattle.repo_keys.proofs.Numbers.{map_in}
use Rattle.repo_info.proofs.OneArchive.{one_archive_pair}
use Rattle.repo_stanza.specs.declared.control.Control.{Control}
use Rattle.repo_stanza.specs.Synced.{AreSynced}
use Rattle.repo_stanza.specs.Pairs.{identity_kept, HasPending, HasStanzaOf, IsStanzaOf, AreTogether, AgreeAt, PairsAgree}
use Rattle.repo_stanza.specs.Judging.{Validates, As, Without, KeepsStanza}
use Rattle.repo_stanza.specs.HealingPair.{archive_text, backup_text, mending_writes, HoldBoth, HaveTexts}
use Rattle.repo_stanza.proofs.NewStanza.{no_pair, at_known, are_synced}
use Rattle.repo_stanza.proofs.OneBackup.{same_backup_text, pair_agrees}
use Rattle.repo_stanza.proofs.Settled.{same_prefix}
use Rattle.repo_stanza.proofs.Shorter.{last_number, shorter_rules, shorter_text}
use Rattle.repo_stanza.proofs.HealedPair.{healed_pair_moves, healed_pair_steady, healed_pair_now}

pub archive_text_is : (f : Content) (name : Text) (v : ArchiveInfo) → PairIs IsArchiveText f name v → IsArchiveText v (archive_text v)
archive_text_is f name v (inl m) = subst (IsArchiveText v) m.2.spelled m.2
archive_text_is f name v (inr q) = subst (IsArchiveText v) q.1.2.spelled q.1.2

pub backup_text_is : (f : Content) (name : Text) (v : BackupInfo) → PairIs IsBackupText f name v → IsBackupText v (backup_text v)
backup_text_is f name v (inl m) = subst (IsBackupText v) m.2.spelled m.2
backup_text_is f name v (inr q) = subst (IsBackupText v) q.1.2.spelled q.1.2

-- what a mapped list has at a place
pub get_map : {X Y : Type 0} (g : X → Y) (xs : List X) (n : ℕ) (y : Y) → slice_get (map g xs) n ≡ Some y → (x : X) × (slice_get xs n ≡ Some x) × (y ≡ g x)
get_map {X} {Y} g [] n y e = let no : ◌≡◌ {A = Option Y} None (Some y) = e in cc
get_map {X} {Y} g (x ∷ xs) zero y e = let is : ◌≡◌ {A = Option Y} (Some (g x)) (Some y) = e in (x, refl, (let same : y ≡ g x = cc in same))
get_map g (x ∷ xs) (suc n) y e = get_map g xs n y e

-- the sections describe the backups by their fields
pub sections_by : (n : ℕ) (hs : List Cluster) (xs ys : List Entry) → map entry_field xs ≡ map entry_field ys → backup_sections (record { current = n; history = hs; backups = xs }) ≡ backup_sections (record { current = n; history = hs; backups = ys })
unfolding backup_sections
sections_by n hs xs ys e = rw e refl

-- ---- the texts that are kept

-- the stanza without what is to come has a text
pub without_text : (s : Stanza) (c : Cluster) → 1 ≤ length s.history → IsPending s (Some c) → IsBackupText (backup_value s (Some c)) (backup_text (backup_value s (Some c))) → IsBackupText (backup_value s None) (backup_text (backup_value s None))
without_text s c some unused is =
    let v = backup_value s (Some c) in
    let number = last_number s.history c 1 is.rules.numbers in
    let none : (e : Entry) → In e v.backups → e.db ≢ length v.history = λ e at same.
    let (b, there, is_b) = map_in (λ (b : Backup). b.entry) s.backups e at in
    unused b there (ap (λ (x : Entry). x.db) (sym is_b) ∙ same ∙ (let count : length v.history ≡ c.id = omega (arith, number, length-append s.history (c ∷ [])) in count)) in
    record {
      rules = shorter_rules v (backup_value s None) c is.rules refl refl some refl none;
      spelled = refl;
      within = omega (arith, is.within, shorter_text v (backup_value s None) c is.rules refl refl some refl);
    }

module _ (stanza : Text) (known : Control) (f : Content) (a : ArchiveInfo) (w : BackupInfo) (k : KeepsStanza stanza known f a w) where
  -- the repository has a stanza
  pub has_some : (r : Repository) → Represents stanza f r → (s : Stanza) × (r ≡ Some s) × HasStanza stanza f s
  has_some None v = absurd (no_pair IsArchiveText f (archive_info stanza) a v.archive_pair k.pairs.archive)
  has_some (Some s) h = (s, refl, h)

  module _ (s : Stanza) (h : HasStanza stanza f s) where
    archive_is : a ≡ archive_value s
    archive_is = one_archive_pair f (archive_info stanza) a (archive_value s) k.pairs.archive h.archive_pair

    pub archive_fits : IsArchiveText (archive_value s) (archive_text a)
    archive_fits = subst (λ (v : ArchiveInfo). IsArchiveText (archive_value s) (archive_text v)) (sym archive_is) (archive_text_is f (archive_info stanza) (archive_value s) h.archive_pair)

    same_count : length a.history ≡ length s.history
    same_count = ap (λ (v : ArchiveInfo). length v.history) archive_is ∙ length-map s.history identity_of

    some : 1 ≤ length s.history
    some = let c = archive_fits.rules.current in omega (arith, c)

    abbrev Fits : Type 0
    Fits = (x : Option Cluster) × IsPending s x × IsBackupText (backup_value s x) (backup_text w)

    without : (p : HasPending a k.backup) → w ≡ record { current = length p.earlier; history = p.earlier; backups = k.backup.backups } → (x : Option Cluster) → IsPending s x → PairIs IsBackupText f (backup_info stanza) (backup_value s x) → Fits
    without p is None fits pair =
        let agree = pair_agrees f (backup_info stanza) k.backup (backup_value s None) k.pairs.backup pair in
        absurd (omega (arith, ap length agree.history, ap length p.whole, ap length p.same, length-map p.earlier identity_of, length-append p.earlier (p.last ∷ []), same_count))
    without p is (Some c) fits pair =
        let agree = pair_agrees f (backup_info stanza) k.backup (backup_value s (Some c)) k.pairs.backup pair in
        let earlier : p.earlier ≡ s.history = same_prefix p.earlier s.history p.last c (sym p.whole ∙ agree.history) in
        let first : w ≡ record { current = length s.history; history = s.history; backups = k.backup.backups } = is ∙ ap (λ (cs : List Cluster). (let v : BackupInfo = record { current = length cs; history = cs; backups = k.backup.backups } in v)) earlier in
        let text : backup_text w ≡ backup_text (backup_value s None) = ap backup_text first ∙ ap info_text (sections_by (length s.history) s.history k.backup.backups (map (λ (b : Backup). b.entry) s.backups) agree.entries) in
        (None, tt, subst (IsBackupText (backup_value s None)) (sym text) (without_text s c some fits (backup_text_is f (backup_info stanza) (backup_value s (Some c)) pair)))

    settled : Validates a k.backup w → Fits
    settled (As same is) =
        let text : backup_text w ≡ backup_text (backup_value s h.pending) = ap backup_text is ∙ same_backup_text f (backup_info stanza) k.backup (backup_value s h.pending) k.pairs.backup h.backup_pair in
        (h.pending, h.is_pending, subst (IsBackupText (backup_value s h.pending)) (sym text) (backup_text_is f (backup_info stanza) (backup_value s h.pending) h.backup_pair))
    settled (Without p is) = without p is h.pending h.is_pending h.backup_pair

    pub backup_fits : Fits
    backup_fits = settled k.settles

    -- its current cluster is the one that is given
    pub stanza_of : IsStanzaOf known s
    stanza_of =
        let at : at_number (current_number s) (map identity_of s.history) ≡ Some k.of.current = ap (λ (v : ArchiveInfo). at_number v.current v.history) (sym archive_is) ∙ k.of.is_current in
        let (c, there, is) = get_map identity_of s.history (current_number s - 1) k.of.current at in
        record { current = c; is_current = there; same = ap identity_kept (sym is) ∙ k.of.same }

  -- the two pairs fit together
  pub stanza_known : HasStanzaOf stanza known f
  stanza_known = record { archive = a; backup = k.backup; pairs = k.pairs; together = together k.settles; current = k.of.current; is_current = k.of.is_current; same = k.of.same }
    where
      together : Validates a k.backup w → AreTogether a k.backup
      together (As same is) = inl same
      together (Without p is) = inr p

pub having : (stanza : Text) (known : Control) (now : Option Content) (a : ArchiveInfo) (w : BackupInfo) → IfSome now (λ f. KeepsStanza stanza known f a w) → IfSome now (HasStanzaOf stanza known)
having stanza known None a w k = tt
having stanza known (Some f) a w k = stanza_known stanza known f a w k

-- ---- from the disk as it was, over what was only read, to what was written

module _ (stanza : Text) (known : Control) (a : ArchiveInfo) (w : BackupInfo) (old mid new : View) (rests : LeavesNoMore old mid) (same : mid.now ≡ old.now) (keeps : IfSome old.now (λ f. KeepsStanza stanza known f a w)) where
  abbrev writes : Content → Content → Type 0
  writes = SomeOf (mending_writes stanza (archive_text a) (backup_text w))

  known_now : IsSome old.now → IsSome mid.now
  known_now some = subst (λ (o : Option Content). IsSome o) (sym same) some

  found : (r : Repository) → IsSome old.now → NowRepresents stanza r old.now → (f : Content) × KeepsStanza stanza known f a w × ((s : Stanza) × (r ≡ Some s) × HasStanza stanza f s)
  found r some now = let f = known_as old.now some in
      let k = at_known (λ f. KeepsStanza stanza known f a w) old.now f.0 f.1 keeps in
      (f.0, k, has_some stanza known f.0 a w k r (now.represents f.0 f.1))

  pub same_of : (r : Repository) → IsSome old.now → NowRepresents stanza r old.now → (s : Stanza) × (r ≡ Some s) × IsStanzaOf known s
  same_of r some now = let x = found r some now in (x.2.0, x.2.1, stanza_of stanza known x.0 a w x.1 x.2.0 x.2.2)

  module _ (c : Cluster) where
    stays : NowChanges writes mid.now new.now → (r : Repository) → IsSome old.now → NowRepresents stanza r old.now → NowRepresents stanza r new.now × NowRepresents stanza (step r (Create c)) new.now
    stays goes r some now =
        let x = found r some now in
        let fits = backup_fits stanza known x.0 a w x.1 x.2.0 x.2.2 in
        let P : Repository → Type 0 = λ q. NowRepresents stanza q new.now × NowRepresents stanza (step q (Create c)) new.now in
        let at : NowRepresents stanza (Some x.2.0) mid.now = subst (λ (q : Repository). NowRepresents stanza q mid.now) x.2.1 (subst (λ (o : Option Content). NowRepresents stanza r o) (sym same) now) in
        let after = healed_pair_now stanza x.2.0 fits.0 fits.1 (archive_text a) (backup_text w) (archive_fits stanza known x.0 a w x.1 x.2.0 x.2.2) fits.2 mid.now new.now (known_now some) goes at in
        subst P (sym x.2.1) (after, after)

    pub same_part : NowChanges writes mid.now new.now → (r : Repository) → IsSome old.now → NowRepresents stanza r old.now → NowRepresents stanza r new.now ⊎ NowRepresents stanza (step r (Create c)) new.now
    same_part goes r some now = inl (stays goes r some now).0

    pub same_done : NowChanges writes mid.now new.now → (r : Repository) → IsSome old.now → NowRepresents stanza r old.now → NowRepresents stanza (step r (Create c)) new.now
    same_done goes r some now = (stays goes r some now).1

    abbrev P : Repository → Content → Type 0
    P r g = Represents stanza g r ⊎ Represents stanza g (step r (Create c))

    module _ (crash : AreSynced stanza mid → Crash writes mid new) (r : Repository) (steady : IsSteady stanza r old) (some : IsSome old.now) where
      abbrev now : NowRepresents stanza r old.now
      now = record { represents = λ f is. steady.represents f (inl is) }

      rested : IsSteady stanza r mid
      rested = steady_rests stanza r old mid rests same steady

      both : (s : Stanza) → r ≡ Some s → (f : Content) → KeepsStanza stanza known f a w → HasStanza stanza f s → EachImage stanza (P r) mid new × IsSteady stanza (step r (Create c)) new
      both s is f k h =
          let fits = backup_fits stanza known f a w k s h in
          let Q : Repository → Type 0 = λ q. EachImage stanza (P q) mid new × IsSteady stanza (step q (Create c)) new in
          let at : IsSteady stanza (Some s) mid = subst (λ (q : Repository). IsSteady stanza q mid) is rested in
          let archive_is = archive_fits stanza known f a w k s h in
          let here = crash (are_synced stanza r mid rested) in
          let m = healed_pair_moves stanza s fits.0 fits.1 (archive_text a) (backup_text w) archive_is fits.2 mid new at (known_now some) here in
          let e = healed_pair_steady stanza s fits.0 fits.1 (archive_text a) (backup_text w) archive_is fits.2 mid new at (known_now some) here in
          let moves : EachImage stanza (P (Some s)) mid new = record { later = m.later; past = m.past; past_unsynced = m.past_unsynced; known = m.known; fixed = m.fixed; places = m.places; leaves = λ t g lo hi leaves. inl (m.leaves t g lo hi leaves) } in
          subst Q (sym is) (moves, e)

      result : EachImage stanza (P r) mid new × IsSteady stanza (step r (Create c)) new
      result = let x = found r some now in both x.2.0 x.2.1 x.0 x.1 x.2.2

      pub same_moves : EachImage stanza (P r) old new
      same_moves = prefix_moves stanza r (P r) old mid new rests steady (λ g h. inl h) result.0

      pub same_steady : IsSteady stanza (step r (Create c)) new
      same_steady = result.1

-- ---- the members

agree_at : (name text : Text) (f : Content) → HoldBoth name text f → AgreeAt name f
agree_at name text f h = (h.1 ∙ sym h.0, subst (λ (v : Option Text). IsSome v) (sym h.0) refl)

pub agreed : (stanza archive backup : Text) (now : Option Content) → IfSome now (HaveTexts stanza archive backup) → IfSome now (PairsAgree stanza)
agreed stanza archive backup None h = tt
agreed stanza archive backup (Some f) h = record { archive = agree_at (archive_info stanza) archive f h.archive_pair; backup = agree_at (backup_info stanza) backup f h.backup_pair }

-- what holds of a value that is there
pub some_of : {X : Type 0} (P : X → Type 0) (o : Option X) (x : X) → o ≡ Some x → IfSome o P → P x
some_of {X} P o x is h = let Q : Option X → Type 0 = λ p. IfSome p P in let at : Q (Some x) = subst Q is h in at
