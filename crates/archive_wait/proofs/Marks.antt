-- Steps of others one after another, as the spool keeps the log.
use Rattle.std.proofs.Common.{◌≡◌, ⊎_elim, inl, inr, ◌≤◌, ℕ, List, [], ◌∷◌, ◌++◌, Some, refl, sym, ap, ◌∙◌, subst, arith, Bool, true, false}
use Rattle.std.specs.Prelude.{IsSome}
use Rattle.std.proofs.Math.Bool.{and-true}
use Rattle.base_devices.specs.Content.{Content}
use Rattle.base_devices.specs.Crash.{Leaves}
use Rattle.base_devices.specs.Moments.{View, IsImage}
use Rattle.base_model.specs.Text.{Text}
use Rattle.base_model.specs.Repository.{Repository}
use Rattle.base_model.specs.Steps.{Turn, ArchivePushAsync, all_of, steps_of}
use Rattle.base_model.specs.Log.{Done, Keeps, KeepsSpool, IsDone, Reaches}
use Rattle.base_model.proofs.Begun.{either}
use Rattle.base_model.proofs.Done.{part_none}
use Rattle.base_crash_lists.specs.Trace.{HasReceiptsOf}
use Rattle.archive_lookup.specs.Stored.{ChangesArchive}
use Rattle.archive_lookup.specs.Turns.{GoesByTurn, GivesReceipts}
use Rattle.archive_lookup.proofs.Waiting.{turn_keeps, turn_receipts}
use Rattle.archive_wait.specs.TurnsDone.{all_ended, GoesByTurns, MarksByTurns}
use Rattle.archive_wait.proofs.Folds.{no_moves, ended_on}
use Rattle.archive_wait.proofs.EachImage.{entry, leads_on, leads_more}

-- ---- no step of others

pub none_more : (whole : Bool) (q : Repository) (log : List Done) (r : Repository) → Reaches q log r →
    Reaches q (entry [] whole ∷ log) r
none_more whole q log r reached = (r, reached, ([], refl, by whole))
  where
    by : (w : Bool) → IsDone w [] (steps_of (ArchivePushAsync []) r)
    by true = sym (ap all_of (no_moves r))
    by false = part_none (steps_of (ArchivePushAsync []) r)

pub none_marks : (stanza : Text) (repo spool : View) → MarksByTurns stanza [] repo spool spool
none_marks stanza repo spool = record {
  known = λ some. some;
  keeps = λ q log some spool_known keeps. record {
    fixed = keeps.receipts.fixed;
    receipts = λ f leaves name sum fits has.
        let x = keeps.receipts.receipts f leaves name sum fits has in (x.0, none_more true q log x.0 x.1, x.2);
  };
  between = λ q log some spool_known keeps t f lo hi leaves name sum fits has.
      let e : t ≡ spool.moment = omega (arith, lo, hi) in
      let x = keeps.receipts.receipts f (subst (λ (m : ℕ). Leaves spool m f) e leaves) name sum fits has in
      (x.0, none_more false q log x.0 x.1, x.2);
}

-- ---- one step of others

pub one_marks : (stanza : Text) (t : Turn) (repo new_repo spool new_spool : View) → GoesByTurn stanza t repo new_repo →
    GivesReceipts stanza t repo new_repo spool new_spool → ChangesArchive stanza spool new_spool →
    (IsSome spool.now → IsSome new_spool.now) → MarksByTurns stanza (t ∷ []) repo spool new_spool
one_marks stanza t repo new_repo spool new_spool goes gives only known = record {
  known = known;
  keeps = λ q log some spool_known keeps.
      subst (λ (w : Bool). KeepsSpool stanza q (entry (t ∷ []) w ∷ log) new_spool) (sym (and-true t.ended))
      (turn_keeps stanza t repo new_repo spool new_spool goes gives only some spool_known q log keeps).receipts;
  between = λ q log some spool_known keeps m f lo hi leaves name sum fits has.
      turn_receipts stanza t repo new_repo spool new_spool goes gives only some spool_known q log keeps false m f lo hi
      leaves name sum fits has;
}

-- ---- steps of others, and then more of them

module _ (stanza : Text) (ts us : List Turn) (a b s t u : View) (ended : all_ended ts ≡ true) (goes : GoesByTurns stanza ts a b)
    (p : MarksByTurns stanza ts a s t) (q : MarksByTurns stanza us b t u) (only : ChangesArchive stanza t u) where
  -- the two disks keep the log with the first steps of others
  mid : (r : Repository) (log : List Done) → IsSome a.now → IsSome s.now → Keeps stanza r log a s →
      Keeps stanza r (entry ts true ∷ log) b t
  mid r log some known keeps = subst (λ (w : Bool). Keeps stanza r (entry ts w ∷ log) b t) ended (record {
    repository = goes.carries.keeps r log some keeps.repository;
    receipts = p.keeps r log some known keeps;
  })

  reaches_on : (whole : Bool) (r : Repository) (log : List Done) (x : Repository) →
      Reaches r (entry us whole ∷ entry ts true ∷ log) x → Reaches r (entry (ts ++ us) whole ∷ log) x
  reaches_on whole r log x h = (h.1.0, h.1.1, leads_on ts us whole h.1.0 h.0 x h.1.2 h.2)

  receipts_on : (whole : Bool) (r : Repository) (log : List Done) (f : Content) →
      HasReceiptsOf stanza r (entry us whole ∷ entry ts true ∷ log) f →
      HasReceiptsOf stanza r (entry (ts ++ us) whole ∷ log) f
  receipts_on whole r log f h name sum fits has =
      let x = h name sum fits has in (x.0, reaches_on whole r log x.0 x.1, x.2)

  receipts_more : (r : Repository) (log : List Done) (f : Content) → HasReceiptsOf stanza r (entry ts false ∷ log) f →
      HasReceiptsOf stanza r (entry (ts ++ us) false ∷ log) f
  receipts_more r log f h name sum fits has =
      let x = h name sum fits has in (x.0, (x.1.0, x.1.1, leads_more ts us x.1.0 x.0 x.1.2), x.2)

  pub marks_after : MarksByTurns stanza (ts ++ us) a s u
  marks_after = record {
    known = λ some. q.known (p.known some);
    keeps = λ r log some known keeps.
        let k = q.keeps r (entry ts true ∷ log) (goes.does.known some) (p.known known) (mid r log some known keeps) in
        subst (λ (w : Bool). KeepsSpool stanza r (entry (ts ++ us) w ∷ log) u) (ended_on ts us ended) (record {
          fixed = k.fixed;
          receipts = λ f leaves. receipts_on (all_ended us) r log f (k.receipts f leaves);
        });
    between = between;
  }
    where
      between : (r : Repository) (log : List Done) → IsSome a.now → IsSome s.now → Keeps stanza r log a s →
          (m : ℕ) (f : Content) → s.moment ≤ m → m ≤ u.moment → Leaves u m f →
          HasReceiptsOf stanza r (entry (ts ++ us) false ∷ log) f
      between r log some known keeps m f lo hi leaves = ⊎_elim
          (λ (now : u.now ≡ Some f). following u.moment only.time.later (omega arith) (inl now))
          (λ (image : IsImage u m f). ⊎_elim
          (λ (le : m ≤ t.moment). receipts_more r log f (p.between r log some known keeps m f lo le (inr (earlier le image))))
          (λ (ge : t.moment ≤ m). following m ge hi (inr image))
          (either m t.moment)) leaves
        where
          earlier : m ≤ t.moment → IsImage u m f → IsImage t m f
          earlier le image n = ⊎_elim (λ k. inl (only.time.same m n (f n) le k))
              (λ l. inr (sym (only.time.same_unsynced m n le) ∙ l.0, l.1)) (image n)

          following : (k : ℕ) → t.moment ≤ k → k ≤ u.moment → Leaves u k f →
              HasReceiptsOf stanza r (entry (ts ++ us) false ∷ log) f
          following k ge le l = receipts_on false r log f
              (q.between r (entry ts true ∷ log) (goes.does.known some) (p.known known) (mid r log some known keeps) k f ge le l)
