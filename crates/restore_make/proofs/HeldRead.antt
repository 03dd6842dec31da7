-- One file of the backup that is read into memory.
use Rattle.std.proofs.Common.{ℕ, zero, suc, ◌≡◌, ◌≤◌, inl, refl, sym, ap, ◌∙◌, subst, arith, get_or, List, [], ◌∷◌, length, map, Option, Some, slice_get, string_bytes}
use Rattle.std.specs.Prelude.{IfSome, OnOk, Result, Ok, Err}
use Rattle.sha1.specs.Sha1.{sha1}
use Rattle.base_devices.specs.Links.{LinkState}
use Rattle.base_text.specs.declared.sum.Sum.{Sum}
use Rattle.base_model.specs.declared.labels.Label.{Label}
use Rattle.base_model.specs.Text.{Text}
use Rattle.base_model.specs.Values.{FileEntry}
use Rattle.worker_protocol.specs.declared.frames.frames.JobKind.TheVariants.{Read}
use Rattle.worker_protocol.specs.Frames.{Job}
use Rattle.worker_protocol.specs.declared.sinks.ItemEnd.{ItemEnd}
use Rattle.worker_protocol.specs.declared.sinks.ItemEnd.TheVariants.{Whole, Vanished}
use Rattle.worker_protocol.specs.PartSinkState.{Done, JobItems}
use Rattle.worker_pool.specs.Reads.{AllEnd, EndsAs}
use Rattle.worker_pool.specs.Run.{EndedBy, AllDone}
use Rattle.worker_pool.proofs.Going.{some_of}
use Rattle.worker_pool.specs.declared.dispatch.fault.Lost.{Lost}
use Rattle.restore_steps.specs.Sources.{source, reading}
use Rattle.restore_make.specs.declared.fault.FillFault.{FillFault}
use Rattle.restore_make.specs.declared.fault.FillFault.TheVariants as faults
use Rattle.restore_make.specs.declared.candidates.Candidate.{Candidate}
use Rattle.worker_pool.specs.declared.digest_runs.memory_keeper.ReadItem.{ReadItem}
use Rattle.restore_make.specs.Digested.{file_of}
use Rattle.worker_pool.specs.Holdings.{held_bytes, done_item}
use Rattle.restore_make.specs.Written.{IsReadOf}
use Rattle.restore_make.specs.Settings.{IsBytesOf, IsFirstOf, IsWrongItem, ShowsWrongItem}
use Rattle.restore_make.specs.Faults.{IsDamaged, FillFails}
use Rattle.worker_pool.specs.Digests.{IsWhole}

pub on_ok : {A E : Type 0} (r : Result A E) (P : Type 0) → P → OnOk r P
on_ok (Ok x) P p = p
on_ok (Err e) P p = tt

pub first_rest : {A : Type 0} (xs : List A) (x : A) → 1 ≤ length xs → x ≡ get_or xs 0 x → (rest : List A) × (xs ≡ x ∷ rest)
first_rest [] x lt e = absurd (omega (arith, lt))
first_rest (y ∷ xs) x lt e = (xs, ap (λ z. z ∷ xs) (sym e))

-- the one job of the one file
pub one_each : (stanza : Text) (own : Label) (cand : Candidate) (jobs : List Job) → jobs ≡ reading stanza own (file_of cand) ∷ [] → (k : ℕ) (c : Candidate) (j : Job) → slice_get (cand ∷ []) k ≡ Some c → slice_get jobs k ≡ Some j → j.items ≡ source stanza own (file_of c) ∷ []
one_each stanza own cand jobs are zero c j at_k at_j =
    let h : ◌≡◌ {A = Option Candidate} (Some cand) (Some c) = at_k in
    let same : cand ≡ c = cc in
    let k : ◌≡◌ {A = Option Job} (Some (reading stanza own (file_of cand))) (Some j) = sym (ap (λ (l : List Job). slice_get l 0) are) ∙ at_j in
    let job : reading stanza own (file_of cand) ≡ j = cc in
    ap (λ (x : Job). x.items) (sym job) ∙ ap (λ (x : Candidate). source stanza own (file_of x) ∷ []) same
one_each stanza own cand jobs are (suc k) c j at_k at_j = cc

module _ (stanza : Text) (own : Label) (links : List LinkState) (e : FileEntry) (jobs : List Job) (jobs_are : jobs ≡ reading stanza own e ∷ []) (kept : List JobItems) (done : AllDone jobs links kept)
    (ended : List ReadItem) (held : IfSome (slice_get kept 0) (λ k. k.done ≡ map done_item ended)) where
  ended_by : (x : JobItems) × (slice_get kept 0 ≡ Some x) × EndedBy links (reading stanza own e) x
  ended_by = some_of (EndedBy links (reading stanza own e)) (slice_get kept 0) (done 0 (reading stanza own e) (ap (λ (l : List Job). slice_get l 0) jobs_are))

  -- what the first item that ended holds was read by a link
  first_whole : (first : ReadItem) (rest : List ReadItem) → ended ≡ first ∷ rest → (n : ℕ) (sum : Text) → IsWhole (Some first.how) n sum → (n ≡ length first.bytes.items) × (sum ≡ sha1 first.bytes.items) × IsReadOf links (source stanza own e) first.bytes.items
  first_whole first rest is n sum whole =
      let x = ended_by in
      let by = x.2 in
      let dones : x.0.done ≡ done_item first ∷ map done_item rest = subst (λ (o : Option JobItems). IfSome o (λ k. k.done ≡ map done_item ended)) x.1 held ∙ ap (map done_item) is in
      let all : AllEnd by.from.known Read (source stanza own e ∷ []) (done_item first ∷ map done_item rest) = subst (λ (ds : List Done). AllEnd by.from.known Read (source stanza own e ∷ []) ds) dones by.items in
      go by first.how all.0 whole
    where
      go : (by : EndedBy links (reading stanza own e) ended_by.0) (how : ItemEnd) → EndsAs by.from.known Read (source stanza own e) (held_bytes first.bytes.items) how → IsWhole (Some how) n sum → (n ≡ length first.bytes.items) × (sum ≡ sha1 first.bytes.items) × IsReadOf links (source stanza own e) first.bytes.items
      go by (Whole m s) ends w =
          let same : first.bytes.items ≡ ends.bytes = ends.holds.1 in (
            sym w.0 ∙ ends.sums.number ∙ ap (λ (t : Text). length t) (sym same),
            sym w.1 ∙ ends.sums.digest ∙ ap sha1 (sym same),
            subst (λ (t : Text). IsReadOf links (source stanza own e) t) (sym same) (record { link = by.link; from = by.from; is = by.is; read = ends.read }),
          )
      go by Vanished ends w = absurd w

  pub right_bytes : (bytes : Text) → IsFirstOf e ended bytes → IsBytesOf stanza own links e bytes
  right_bytes bytes x =
      let h = first_whole x.0 x.1 x.2 e.size e.sum x.3 in
      let same : bytes ≡ x.0.bytes.items = x.4 in
      record {
        are = (ap (λ (t : Text). length t) same ∙ sym h.0, ap sha1 same ∙ sym h.1);
        read = λ some. subst (λ (t : Text). IsReadOf links (source stanza own e) t) (sym same) h.2;
      }

  wrong_bytes : (path : Text) (known found : Sum) → IsWrongItem e ended path known found → IsDamaged stanza own links (e ∷ []) path known found
  wrong_bytes path known found x =
      let h = first_whole x.first x.rest x.is x.n found.0 x.whole in
      record {
        entry = e;
        listed = inl refl;
        path_is = x.path_is;
        known_fact_is = x.known_fact_is;
        bytes = x.first.bytes.items;
        read = h.2;
        found_is = h.1;
        wrong = λ are. x.wrong (h.0 ∙ are.0, h.1 ∙ are.1);
      }

  pub wrong_fails : (left : List LinkState) (before after : List Lost) (f g : ℕ) (x : FillFault) → ShowsWrongItem e ended x → FillFails x stanza own (e ∷ []) links left before after f g
  wrong_fails left before after f g (faults.FileDamaged path known found) h = wrong_bytes (string_bytes path) known found h
  wrong_fails left before after f g faults.WorkersLost h = absurd h
  wrong_fails left before after f g (faults.Unread path) h = absurd h
  wrong_fails left before after f g faults.DataFolder h = absurd h
  wrong_fails left before after f g faults.NoMemory h = tt
