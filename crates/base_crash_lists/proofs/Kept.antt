-- After a story the two disks keep the log of each stanza.
use Rattle.std.proofs.Common.{◌≡◌, ℕ, ◌≤◌, inr, List, [], ◌∷◌, Bool, true, false, Option, Some, None, refl, sym, subst}
use Rattle.std.specs.Prelude.{IsSome, bytes_eq, if◌then◌else◌}
use Rattle.std.proofs.lemmas.Slice.Eq.{bytes_eq-Decides}
use Rattle.base_devices.specs.Content.{Content}
use Rattle.base_devices.specs.Moments.{View, IsImage}
use Rattle.base_devices.specs.Crash.{Leaves}
use Rattle.base_model.specs.Text.{Text}
use Rattle.base_model.specs.Repository.{Repository}
use Rattle.base_model.specs.Log.{Done, RepresentsAfter, Keeps}
use Rattle.base_model.specs.Steady.{LeavesOnly}
use Rattle.base_model.proofs.Begun.{between_image, old_leaves, still_synced}
use Rattle.base_model.proofs.Logged.{rests_still}
use Rattle.base_model.proofs.Reopened.{IsReopened}
use Rattle.base_model.specs.Log.{KeepsSpool}
use Rattle.base_model.specs.Names.{receipt_name}
use Rattle.base_devices.specs.Moments.{LeavesNoMore}
use Rattle.base_crash_lists.specs.Beside.{IsStanza}
use Rattle.base_crash_lists.specs.Trace.{Disks, Call, stopped, log_of, went_on, HasReceiptsOf, Does, AreStill, AreFair, AreLeft, nothing, KeepsAll, StandAll, LeaveAll, Trace, begins, calls, stops, refuses, reopens}
use Rattle.base_crash_lists.proofs.Apart.{beside as names_beside}
use Rattle.base_crash_lists.proofs.Beside.{others_keep, others_between, others_spool, others_receipts}
use Rattle.base_crash_lists.proofs.Opened.{opened_repository, opened_spool, empty_represents, empty_receipts}

some : (o : Option Content) (f : Content) → o ≡ Some f → IsSome o
some None f e = cc
some (Some g) f e = refl

-- ---- one call, for one stanza

module _ (c : Call) (old new : Disks) (fair : AreFair old) (does : Does c old new) (known : IsSome old.repo.now) (spool_known : IsSome old.spool.now)
    (s : Text) (is_s : IsStanza s) (q : Repository) (log : List Done) (keeps : Keeps s q log old.repo old.spool) where
  same_stanza : bytes_eq s c.stanza ≡ true → c.stanza ≡ s
  same_stanza e = sym ((bytes_eq-Decides s c.stanza).0 e)

  own : bytes_eq s c.stanza ≡ true → Keeps c.stanza q log old.repo old.spool
  own e = subst (λ (t : Text). Keeps t q log old.repo old.spool) (sym (same_stanza e)) keeps

  carried : (b : Bool) → bytes_eq s c.stanza ≡ b → Keeps s q (if b then c.done ∷ log else log) new.repo new.spool
  carried true e = subst (λ (t : Text). Keeps t q (c.done ∷ log) new.repo new.spool) (same_stanza e) (does.keeps q log (known, spool_known) (own e))
  carried false e = let far = names_beside s c.stanza is_s does.is_stanza e in record {
    repository = others_keep c.stanza s far old.repo new.repo fair.repo known does.beside q log keeps.repository;
    receipts = others_spool c.stanza s far old.spool new.spool fair.spool spool_known does.spool_beside q log keeps.receipts;
  }

  passed : (b : Bool) → bytes_eq s c.stanza ≡ b → LeavesOnly (RepresentsAfter s q (if b then (stopped c).done ∷ log else log)) old.repo new.repo
  passed true e = subst (λ (t : Text). LeavesOnly (RepresentsAfter t q ((stopped c).done ∷ log)) old.repo new.repo) (same_stanza e) (does.between q log (known, spool_known) (own e))
  passed false e = others_between c.stanza s (names_beside s c.stanza is_s does.is_stanza e) old.repo new.repo fair.repo known does.beside q log keeps.repository

  passed_spool : (b : Bool) → bytes_eq s c.stanza ≡ b → LeavesOnly (HasReceiptsOf s q (if b then (stopped c).done ∷ log else log)) old.spool new.spool
  passed_spool true e = subst (λ (t : Text). LeavesOnly (HasReceiptsOf t q ((stopped c).done ∷ log)) old.spool new.spool) (same_stanza e) (does.receipts.between q log (known, spool_known) (own e))
  passed_spool false e = others_receipts c.stanza s (names_beside s c.stanza is_s does.is_stanza e) old.spool new.spool fair.spool spool_known does.spool_beside q log keeps.receipts

  pub call_keeps : Keeps s q (went_on s c log) new.repo new.spool
  call_keeps = carried (bytes_eq s c.stanza) refl

  pub stop_represents : (t : ℕ) (f : Content) → old.repo.moment ≤ t → t ≤ new.repo.moment → IsImage new.repo t f → RepresentsAfter s q (went_on s (stopped c) log) f
  stop_represents t f lo hi image = passed (bytes_eq s c.stanza) refl t f lo hi (inr image)

  pub stop_receipts : (t : ℕ) (f : Content) → old.spool.moment ≤ t → t ≤ new.spool.moment → IsImage new.spool t f → HasReceiptsOf s q (went_on s (stopped c) log) f
  stop_receipts t f lo hi image = passed_spool (bytes_eq s c.stanza) refl t f lo hi (inr image)

-- disks that were opened anew on contents that represent the log of each stanza
pub opened_keep : (before : List Call) (f g : Content) (d : Disks) → IsReopened f d.repo → IsReopened g d.spool → StandAll before f g → KeepsAll before d
opened_keep before f g d repo spool all = record {
  known = some d.repo.now f repo.now;
  spool_known = some d.spool.now g spool.now;
  keeps = λ s is_s. record {
    repository = opened_repository f d.repo repo s None (log_of s before) (all.represents s is_s);
    receipts = opened_spool g d.spool spool s None (log_of s before) (all.receipts s is_s);
  };
}

pub empty_stand : StandAll [] nothing nothing
empty_stand = record { represents = λ s is_s. empty_represents s; receipts = λ s is_s. empty_receipts s }

-- ---- one call, for each stanza

module _ (c : Call) (old new : Disks) (fair : AreFair old) (does : Does c old new) (before : List Call) (h : KeepsAll before old) where
  pub all_keep : KeepsAll (c ∷ before) new
  all_keep = record {
    known = does.known h.known;
    spool_known = does.spool_known h.spool_known;
    keeps = λ s is_s. call_keeps c old new fair does h.known h.spool_known s is_s None (log_of s before) (h.keeps s is_s);
  }

  pub all_leave : LeaveAll (stopped c ∷ before) old new
  all_leave t u f g lo image spool_lo spool_image = record {
    represents = λ s is_s. stop_represents c old new fair does h.known h.spool_known s is_s None (log_of s before) (h.keeps s is_s) t f lo.0 lo.1 image;
    receipts = λ s is_s. stop_receipts c old new fair does h.known h.spool_known s is_s None (log_of s before) (h.keeps s is_s) u g spool_lo.0 spool_lo.1 spool_image;
  }

-- ---- only was read

still_some : (o p : Option Content) → p ≡ o → IsSome o → IsSome p
still_some o p same some = subst (λ (x : Option Content). IsSome x) (sym same) some

pub still_spool : (stanza : Text) (q : Repository) (log : List Done) (a b : View) → LeavesNoMore a b → b.now ≡ a.now → KeepsSpool stanza q log a → KeepsSpool stanza q log b
still_spool stanza q log a b rests same keeps = record {
  fixed = λ name fits. still_synced a b rests (receipt_name stanza name) (keeps.fixed name fits);
  receipts = λ f leaves. keeps.receipts f (old_leaves a b rests f same leaves);
}

module _ (old new : Disks) (still : AreStill old new) (before : List Call) (h : KeepsAll before old) where
  pub all_still : KeepsAll before new
  all_still = record {
    known = still_some old.repo.now new.repo.now still.now h.known;
    spool_known = still_some old.spool.now new.spool.now still.spool_now h.spool_known;
    keeps = λ s is_s. let k = h.keeps s is_s in record {
      repository = rests_still s None (log_of s before) old.repo new.repo still.time still.now k.repository;
      receipts = still_spool s None (log_of s before) old.spool new.spool still.spool_time still.spool_now k.receipts;
    };
  }

  pub all_rest : LeaveAll before old new
  all_rest t u f g lo image spool_lo spool_image = record {
    represents = λ s is_s. (h.keeps s is_s).repository.represents f (inr (between_image old.repo new.repo still.time t f lo.0 lo.1 image));
    receipts = λ s is_s. (h.keeps s is_s).receipts.receipts g (inr (between_image old.spool new.spool still.spool_time u g spool_lo.0 spool_lo.1 spool_image));
  }

all_opened : (before : List Call) (old new opened : Disks) → LeaveAll before old new → AreLeft old new opened → KeepsAll before opened
all_opened before old new opened leave left =
    opened_keep before left.repo left.spool opened left.repo_opened left.spool_opened (leave left.at_repo left.at_spool left.repo left.spool left.within left.image left.spool_within left.spool_image)

-- ---- a story

pub kept : (before : List Call) (d : Disks) → Trace before d → KeepsAll before d
kept _ _ (begins d repo spool) = opened_keep [] _ _ d repo spool empty_stand
kept _ _ (calls before old new c trace fair does) = all_keep c old new fair does before (kept before old trace)
kept _ _ (stops before old new opened c trace fair does left) = all_opened (stopped c ∷ before) old new opened (all_leave c old new fair does before (kept before old trace)) left
kept _ _ (refuses before old new trace still) = all_still old new still before (kept before old trace)
kept _ _ (reopens before old new opened trace still left) = all_opened before old new opened (all_rest old new still before (kept before old trace)) left

-- What the disk holds, and whatever a crash now leaves, represents the abstract repository after all steps of the
-- acknowledged commands and a part of each other one's.
pub headline : (before : List Call) (d : Disks) → Trace before d → (stanza : Text) → IsStanza stanza → (f : Content) → Leaves d.repo d.repo.moment f → RepresentsAfter stanza None (log_of stanza before) f
headline before d trace stanza is f leaves = ((kept before d trace).keeps stanza is).repository.represents f leaves

-- and each receipt that the spool has, or a crash now leaves of it, is of a file that a repository of the log has
-- stored
pub headline_spool : (before : List Call) (d : Disks) → Trace before d → (stanza : Text) → IsStanza stanza → (f : Content) → Leaves d.spool d.spool.moment f → HasReceiptsOf stanza None (log_of stanza before) f
headline_spool before d trace stanza is f leaves = ((kept before d trace).keeps stanza is).receipts.receipts f leaves
