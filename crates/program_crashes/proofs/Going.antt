-- From one call to the list of calls.
use Rattle.std.proofs.Common.{◌≡◌, inl, inr, ℕ, arith, Bool, true, false, List, ◌∷◌, ◌++◌, Option, Some, None, refl, sym, ap, subst, ◌∙◌}
use Rattle.std.specs.Prelude.{IsSomeAnd}
use Rattle.base_devices.specs.Content.{Content}
use Rattle.base_devices.specs.DataFolder.{Nodes}
use Rattle.base_devices.proofs.Nows.{known_as}
use Rattle.base_model.specs.Repository.{Repository}
use Rattle.base_model.specs.Steps.{ArchivePush, Command, Named}
use Rattle.base_model.specs.Text.{Text}
use Rattle.base_model.specs.Log.{Done, Keeps, KeepsRepository}
use Rattle.sha1.specs.Sha1.{sha1}
use Rattle.archive_lookup.specs.Turns.{Account}
use Rattle.base_crash_lists.specs.Trace.{Call, Disks, Does, AreStill, AreFair, log_of}
use Rattle.expire_make.proofs.Forgets.{same_file, one_name}
use Rattle.cmd_archive_push.specs.Causes.{IsStored}
use Rattle.cmd_archive_push.specs.Commands.{IsPushOf}
use Rattle.cmd_types.specs.World.{World}
use Rattle.cmd_trait.specs.Follows.{EndsWell}
use Rattle.cmd_trait.specs.KnownWorld.{KnownWorld, known_world}
use Rattle.cmd_trait.specs.Meaning.{Place, Meaning, IsOf, TurnsKnown, TurnsKnownIf}
use Rattle.options_read.specs.Settings.{Resolved}
use Rattle.program_run.specs.Asked.{asked}
use Rattle.program_crashes.specs.Acts.{disks_in, IsCallOf, IsGiven}
use Rattle.program_crashes.specs.Kept.{pushed, FromFile, KeepsCalls}
use Rattle.program_crashes.specs.Led.{Went}
use Rattle.program_crashes.proofs.Carried.{calls_keep, calls_leave, calls_still, calls_rest, are_there}
use Rattle.program_crashes.proofs.Filed.{keeps_file}
use Rattle.program_crashes.proofs.Filing.{LiesIn, lies_in}
use Rattle.program_crashes.proofs.Shown.{Gives, IsDone}
use Rattle.program_crashes.proofs.Verbs.{IsPush, push_by_verb}

-- ---- a push that was acknowledged

module _ (b k : World) (n : ℕ) (q : Repository) (log : List Done) (s : Resolved) (given : IsGiven q log s b k n) (file : Named) (new : Content) (now : k.repo.view.now ≡ Some new) where
  abbrev stanza : Text
  stanza = (asked s).at.stanza

  lies_for : (nodes : Option Nodes) → nodes ≡ b.tree.nodes → IsPush (asked s).at (known_world b) (known_world k) given.begun k.repo.view file → LiesIn stanza file k.repo.view
  lies_for None is x = by b.tree.nodes is x.is
    where
      by : (o : Option Nodes) → None ≡ o → IsSomeAnd o (λ f. IsPushOf f (asked s).at.data_folder x.path (ArchivePush file)) → LiesIn stanza file k.repo.view
      by None e h = absurd h
      by (Some f) e h = cc
  lies_for (Some f) is x = lies_in stanza (asked s).at.data_folder x.path file f
      (subst (λ (o : Option Nodes). IsSomeAnd o (λ f. IsPushOf f (asked s).at.data_folder x.path (ArchivePush file))) (sym is) x.is)
      given.begun given.repository given.represents k.repo.view new now x.lines
      (subst (λ (o : Option Nodes). IsStored stanza (asked s).at.data_folder x.path o (Some given.begun) k.repo.view.now x.lines) (sym is) x.stored) x.lasting

  pub push_lies : IsOf ((asked s).means.manner (asked s).at (known_world b) (known_world k)) (ArchivePush file) → LiesIn stanza file k.repo.view
  push_lies is = lies_for b.tree.nodes refl
      (push_by_verb (asked s).at (known_world b) (known_world k) given.begun k.repo.view k.tree.nodes given.outcome file s.source.verb s.source s.parameters is given.promise given.lasts)

-- disks that have the file keep a log that leaves it
pub file_of : (stanza : Text) (file : Named) (q : Repository) (log : List Done) (d : Disks) → Keeps stanza q log d.repo d.spool → LiesIn stanza file d.repo → FromFile file (λ from l. Keeps stanza from l d.repo d.spool)
file_of stanza file q log d keeps x = keeps_file x.file stanza x.fits
    (λ y fits same. same_file x.file y x.fits fits same)
    (λ y fits path. one_name stanza x.file.id y.id x.file.name y.name (sha1 x.file.bytes) (sha1 y.bytes) x.fits fits path)
    file x.is q log d.repo d.spool keeps x.lies

-- ---- one call

module _ (q : Text → Repository) (earlier before : List Call) (arguments : List Text) (b k : World) (n : ℕ) (h : KeepsCalls q earlier before (disks_in b)) where
  refused_for : ¬ EndsWell n → AreStill (disks_in b) (disks_in k) → Went q earlier before arguments b k n
  refused_for off still =
      let kept = calls_still q earlier before (disks_in b) (disks_in k) h still in
      record {
        made = None;
        is = off;
        keeps = kept;
        there = are_there q earlier before (disks_in k) kept;
        leaves = calls_rest q earlier before (disks_in b) (disks_in k) h still;
      }

  module _ (fair : AreFair (disks_in b)) (c : Call) (is : IsCallOf arguments b.config.files (known_world b) (known_world k) n c) (does : Does c (disks_in b) (disks_in k)) (gives : Gives arguments b k n is.resolved) where
    abbrev log : List Done
    log = log_of c.stanza (before ++ earlier)

    keeps : Keeps c.stanza (q c.stanza) log b.repo.view b.spool.view
    keeps = h.keeps.logs c.stanza does.is_stanza

    given : EndsWell n → IsGiven (q c.stanza) log is.resolved b k n
    given well = gives (q c.stanza) log h.known (subst (λ (t : Text). KeepsRepository t (q c.stanza) log b.repo.view) is.stanza keeps.repository) well

    file : (m : Named) → c.done ≡ pushed m → FromFile m (λ from l. Keeps c.stanza from l k.repo.view k.spool.view)
    file m e =
        let zero : n ≡ 0 = is.acknowledged.0 (ap (λ (d : Done). d.acknowledged) e) in
        let g = given (inl (omega (arith, zero))) in
        let command = subst (λ (x : Command). IsOf ((asked is.resolved).means.manner (asked is.resolved).at (known_world b) (known_world k)) x) (ap (λ (d : Done). d.command) e) is.command in
        let new = known_as k.repo.view.now (does.known h.known) in
        file_of c.stanza m (q c.stanza) (c.done ∷ log) (disks_in k) (does.keeps (q c.stanza) log (h.known, h.spool_known) keeps)
        (subst (λ (t : Text). LiesIn t m k.repo.view) (sym is.stanza) (push_lies b k n (q c.stanza) log is.resolved g m new.0 new.1 command))

    asked_for : Went q earlier before arguments b k n
    asked_for =
        let kept = calls_keep q earlier before (disks_in b) (disks_in k) h c fair does file in
        record {
          made = Some c;
          is = (is, given);
          keeps = kept;
          there = are_there q earlier (c ∷ before) (disks_in k) kept;
          leaves = calls_leave q earlier before (disks_in b) (disks_in k) h c fair does;
        }

  pub shown_went : AreFair (disks_in b) → IsDone arguments b k n → Went q earlier before arguments b k n
  shown_went fair (inl x) = refused_for x.0 x.1
  shown_went fair (inr x) = asked_for fair x.0 x.1 x.2 x.3

-- ---- what others report

known_of : (o : Option Account) (x y : Text) → x ≡ y → IsSomeAnd o (λ k. k.stanza ≡ x) → IsSomeAnd o (λ k. k.stanza ≡ y)
known_of None x y e known = known
known_of (Some k) x y e known = known ∙ e

-- steps that are known of the stanza that is asked for are known enough, whatever is asked for
pub turns_known : {F : Type 0} (p : Place) (m : Meaning F) (new : KnownWorld) (stanza : Text) → (m.uses.turns ≡ true → stanza ≡ p.stanza) → IsSomeAnd new.others.account (λ k. k.stanza ≡ stanza) → TurnsKnown p m new
turns_known p m new stanza is known = go m.uses.turns is
  where
    go : (turns : Bool) → (turns ≡ true → stanza ≡ p.stanza) → TurnsKnownIf turns p.stanza new
    go true is = known_of new.others.account stanza p.stanza (is refl) known
    go false is = tt
