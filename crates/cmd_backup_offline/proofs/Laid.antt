-- Where the bytes of a manifest's entries lie.
use Rattle.std.proofs.Common.{◌≡◌, inl, inr, ◌<◌, ◌+◌, ℕ, zero, suc, List, [], ◌∷◌, Option, Some, None, refl, sym, ◌∙◌, ap, subst, arith, slice_get}
use Rattle.std.specs.Prelude.{IsSomeAnd}
use Rattle.base_model.specs.declared.files.Bundled.{Bundled}
use Rattle.base_model.specs.Text.{In}
use Rattle.base_model.specs.Values.{FileEntry}
use Rattle.backup_sink.specs.declared.keeper.EndedItem.{EndedItem}
use Rattle.backup_plan.specs.declared.values.Choice.{Choice}
use Rattle.backup_plan.specs.declared.values.Choice.TheVariants.{Skip, Empty, Alone, Bundle, Last}
use Rattle.backup_plan.specs.Listed.{Taken, entry_at}
use Rattle.backup_record.specs.Ends.{end_at, bytes_before}
use Rattle.backup_record.specs.Entries.{BackupRun, entries, entry_for, copied, with_some, bundle_job_number, last_job_number}
use Rattle.backup_record.proofs.Items.{copied_is}
use Rattle.backup_record.proofs.Sorted.{path_of}
use Rattle.cmd_backup_offline.specs.Bundling.{LiesBy, IsLaidBy}
use Rattle.cmd_backup_offline.proofs.Chosen.{left_by}

-- a file of which something came has its place
read_lies : (f : Taken) (at : Option Bundled) (end : Option EndedItem) (e : FileEntry) → copied f at end ≡ Some e → 0 < e.size → e.bundle ≡ at
read_lies f at end e is some = let c = copied_is f at end e is in let size = c.2.size in c.2.bundle (omega (arith, some, size))

abbrev bundle_in : Option FileEntry → Option Bundled
bundle_in None = None
bundle_in (Some e) = e.bundle

lies_by : (w : BackupRun) (f : Taken) (c : Choice) (e : FileEntry) → entry_for w f c ≡ Some e → e.reference ≡ None → 0 < e.size → LiesBy c e
lies_by w f Skip e is own some = absurd ((left_by w f (entry_at f.path w.old) e is).1 own)
lies_by w f Empty e is own some = let x : ◌≡◌ {A = Option FileEntry} (entry_for w f Empty) (Some e) = is in sym (ap bundle_in x)
lies_by w f (Alone job) e is own some = read_lies f None (end_at w.ends job 0) e is some
lies_by w f (Bundle number item) e is own some =
    let job = bundle_job_number w number in
    let at : Bundled = record { number = number; at = bytes_before w.ends job item } in
    subst (λ (o : Option Bundled). IsSomeAnd o (λ b. b.number ≡ number)) (sym (read_lies f (Some at) (end_at w.ends job item) e is some)) refl
lies_by w f Last e is own some = read_lies f None (end_at w.ends (last_job_number w) 0) e is some

module _ (w : BackupRun) (all : List Taken) (chosen : List Choice) where
  next : (n i : ℕ) → n + suc i ≡ suc n + i
  next n i = omega arith

  here : {X : Type 0} (xs ys : List X) (n : ℕ) (x : X) → ((i : ℕ) → slice_get xs (n + i) ≡ slice_get (x ∷ ys) i) → slice_get xs n ≡ Some x
  here xs ys n x fits = let same : n ≡ n + 0 = omega arith in ap (λ (k : ℕ). slice_get xs k) same ∙ fits 0

  beyond : {X : Type 0} (xs ys : List X) (n : ℕ) (x : X) → ((i : ℕ) → slice_get xs (n + i) ≡ slice_get (x ∷ ys) i) → (i : ℕ) → slice_get xs (suc n + i) ≡ slice_get ys i
  beyond xs ys n x fits i = ap (λ (k : ℕ). slice_get xs k) (sym (next n i)) ∙ fits (suc i)

  one : (n : ℕ) (f : Taken) (c : Choice) (e : FileEntry) → slice_get all n ≡ Some f → slice_get chosen n ≡ Some c → entry_for w f c ≡ Some e → IsLaidBy chosen all e
  one n f c e file_is choice_is is = record { index = n; file = f; choice = c; file_is = file_is; choice_is = choice_is; path = path_of w f c e is; lies = lies_by w f c e is }

  laid_from : (n : ℕ) (fs : List Taken) (cs : List Choice) → ((i : ℕ) → slice_get all (n + i) ≡ slice_get fs i) → ((i : ℕ) → slice_get chosen (n + i) ≡ slice_get cs i) → (e : FileEntry) → In e (entries w fs cs) → IsLaidBy chosen all e
  laid_from n [] cs files choices e at = absurd at
  laid_from n (f ∷ fs) [] files choices e at = absurd at
  laid_from n (f ∷ fs) (c ∷ cs) files choices e at = by (laid_from (suc n) fs cs (beyond all fs n f files) (beyond chosen cs n c choices) e) (entry_for w f c) refl at
    where
      by : (In e (entries w fs cs) → IsLaidBy chosen all e) → (o : Option FileEntry) → entry_for w f c ≡ o → In e (with_some o (entries w fs cs)) → IsLaidBy chosen all e
      by rest None is k = rest k
      by rest (Some x) is (inl same) = subst (IsLaidBy chosen all) (sym same) (one n f c x (here all fs n f files) (here chosen cs n c choices) is)
      by rest (Some x) is (inr k) = rest k

here_at : {X : Type 0} (xs : List X) (i : ℕ) → slice_get xs (0 + i) ≡ slice_get xs i
here_at xs i = let same : 0 + i ≡ i = omega arith in ap (λ (k : ℕ). slice_get xs k) same

pub laid_of : (w : BackupRun) (fs : List Taken) (cs : List Choice) (e : FileEntry) → In e (entries w fs cs) → IsLaidBy cs fs e
laid_of w fs cs = laid_from w fs cs 0 fs cs (here_at fs) (here_at cs)
