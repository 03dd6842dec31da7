-- What a worker in memory answers to a job is its reply.
use Rattle.std.proofs.Common.{ℕ, ◌≡◌, ◌⊎◌, inl, inr, Bool, true, false, List, [], ◌∷◌, ◌++◌, length, map, Option, Some, None, Ok, subst, ap, sym, ◌∙◌, refl, arith}
use Rattle.std.specs.Prelude.{◌==◌, if◌then◌else◌, drop, option_map, unwrap_or}
use Rattle.std.specs.List.{flat_map, AllByRecursion}
use Rattle.std.proofs.lemmas.List.{append-nil}
use Rattle.std.proofs.Math.Seq.{drop-append_seam}
use Rattle.std.proofs.lemmas.Bool.Decides.{nat_tests}
use Rattle.base_devices.specs.Content.{Content, Value}
use Rattle.base_model.specs.Text.{Text}
use Rattle.worker_protocol.specs.declared.frames.frames.Root.{Root}
use Rattle.worker_protocol.specs.declared.frames.frames.Root.TheVariants.{DataFolder, Repo}
use Rattle.worker_protocol.specs.Frames.{Roots, Job, Frame, FitsFrame, FitsJob, FitsRoots, spell}
use Rattle.worker_protocol.specs.Frames.Frame.{Setup, Task, Part, End, Vanished, Unread}
use Rattle.worker_protocol.specs.Reading.{frame_at}
use Rattle.worker_protocol.specs.Replies.{replies, reply}
use Rattle.worker_process.specs.Answers.{AnswersJob}
use Rattle.worker_process.specs.Serving.{Talk, Counts, counts, IsLater, Rose, AnswersAll, Talked, Served, bytes_received}
use Rattle.worker_process.specs.Serving.Talk.{Silent, Received}
use Rattle.worker_protocol.proofs.Laws.{frame_again, spelled_once}
use Rattle.worker_pool.specs.Reads.{Reads, IsWorker}
use Rattle.base_devices.specs.Links.{Modelled}
use Rattle.memory_workers.specs.Workers.{task_of, whole_task, job_in, IsJobFrame, answer_to, answer, is_steady, known_first}

-- ---- which job the bytes are

same_size : (n : ℕ) → (n == n) ≡ true
same_size n = grind (arith, nat_tests)

either_way : (b : Bool) (x : Option Job) → (if b then x else x) ≡ x
either_way true x = refl
either_way false x = refl

-- bytes that are exactly a frame state its job, where it is one
pub job_of_frame : (f : Frame) → FitsFrame f → job_in (spell f) ≡ task_of f
job_of_frame f fits =
    let read : frame_at (spell f) ≡ Ok (f, length (spell f)) = ap frame_at (sym (append-nil (spell f))) ∙ frame_again f [] fits in
    ap (whole_task (length (spell f))) read ∙ ap (λ b. if b then task_of f else None) (same_size (length (spell f)))

reads_first : (tree repo : Content) (fail : List ℕ) → Reads tree repo (known_first tree repo fail)
reads_first tree repo fail = record {
  job = λ j fits. ap (answer_to tree repo) (job_of_frame (Task j) fits);
  setup = λ r fits. ap (answer_to tree repo) (job_of_frame (Setup r) fits);
}

-- the link reads the files of its worker
pub reads_files : (tree repo : Content) (fail : List ℕ) (t : Modelled) → t ≡ known_first tree repo fail → Reads tree repo t
reads_files tree repo fail t e = subst (Reads tree repo) (sym e) (reads_first tree repo fail)

pub is_worker : (tree repo : Content) (fail : List ℕ) (t : Modelled) → t ≡ known_first tree repo fail → fail ≡ [] → IsWorker t
is_worker tree repo fail t e none = record { steady = ap (λ (u : Modelled). u.steady) e ∙ ap is_steady none; tree = tree; repo = repo; reads = reads_files tree repo fail t e }

-- ---- the one job of a talk

spell_some : (f : Frame) (more : Text) → spell f ++ more ≡ [] → ⊥
spell_some (Setup r) more e = absurd cc
spell_some (Task j) more e = absurd cc
spell_some (Part bytes) more e = absurd cc
spell_some (End n sum) more e = absurd cc
spell_some Vanished more e = absurd cc
spell_some Unread more e = absurd cc

task_is : (x y : Job) → Task x ≡ Task y → x ≡ y
task_is x y e = let known : ◌≡◌ {A = Option Job} (Some x) (Some y) = ap task_of e in cc

nothing_more : (jobs : List Job) → flat_map spell (map Task jobs) ≡ [] → jobs ≡ []
nothing_more [] e = refl
nothing_more (j ∷ js) e = absurd (spell_some (Task j) (flat_map spell (map Task js)) e)

-- what follows the same frame is the same
same_after : (f : Frame) (x y : Text) → spell f ++ x ≡ spell f ++ y → x ≡ y
same_after f x y e = sym (drop-append_seam (spell f) x) ∙ ap (drop (length (spell f))) e ∙ drop-append_seam (spell f) y

-- where the jobs are spelled as one job, there is no other
one_job : (j : Job) (jobs : List Job) → FitsJob j → AllByRecursion FitsFrame (map Task jobs) → spell (Task j) ≡ flat_map spell (map Task jobs) → jobs ≡ j ∷ []
one_job j [] fits all e = absurd (spell_some (Task j) [] (append-nil (spell (Task j)) ∙ e))
one_job j (k ∷ ks) fits all e =
    let others = flat_map spell (map Task ks) in
    let whole : spell (Task j) ++ [] ≡ spell (Task k) ++ others = append-nil (spell (Task j)) ∙ e in
    let same : Task j ≡ Task k = spelled_once (Task j) (Task k) [] others fits all.0 whole in
    let rest : [] ≡ others = same_after (Task j) [] others (whole ∙ ap (λ f. spell f ++ others) (sym same)) in
    ap (λ x. k ∷ x) (nothing_more ks (sym rest)) ∙ ap (λ x. x ∷ []) (task_is k j (sym same))

-- ---- what was served

none : Counts
none = counts 0 0

no_rise : (a b : Counts) (root : Root) → IsLater b none → Rose a b root → ⊥
unfolding none
no_rise a b DataFolder later rose = omega (arith, later.tree)
no_rise a b Repo later rose = omega (arith, later.repo)

-- where no count rose the job was answered by its reply
answered_whole : (tree repo : Content) (old : Counts) (j : Job) (frames : List Frame) → AnswersAll tree repo (Rose none old) old none (j ∷ []) frames → frames ≡ replies j.kind j.items tree repo
unfolding none
answered_whole tree repo old j frames (mid, one, others, is, later, answered, rest) = is ∙ ap (λ l. one ++ l) rest.0 ∙ append-nil one ∙ whole answered
  where
    never : (root : Root) → Rose none old root ⊎ Rose old mid root → ⊥
    never root (inl rose) = no_rise none old root (record { tree = omega (arith, later.tree, rest.1.tree); repo = omega (arith, later.repo, rest.1.repo) }) rose
    never root (inr rose) = no_rise old mid root rest.1 rose

    whole : AnswersJob j tree repo (λ root. Rose none old root ⊎ Rose old mid root) one → one ≡ replies j.kind j.items tree repo
    whole (inl known) = known
    whole (inr b) = absurd (never b.item.root b.failed)

module _ (tree repo : Content) (r : Roots) (j : Job) (fits_roots : FitsRoots r) (fits_job : FitsJob j) where
  received_reply : (talk : Talk) (rest : Text) (answers : List Frame) → Talked tree repo (spell (Setup r) ++ spell (Task j)) none none talk rest answers → rest ≡ [] → answers ≡ replies j.kind j.items tree repo
  received_reply Silent rest answers t over = absurd (spell_some (Setup r) (spell (Task j)) (t.received_reply ∙ over))
  received_reply (Received roots jobs) rest answers t over =
      let others = flat_map spell (map Task jobs) in
      let input_is : spell (Setup r) ++ spell (Task j) ≡ spell (Setup roots) ++ others = t.received_reply ∙ ap (λ x. bytes_received (Received roots jobs) ++ x) over ∙ append-nil (spell (Setup roots) ++ others) in
      let same : Setup r ≡ Setup roots = spelled_once (Setup r) (Setup roots) (spell (Task j)) others fits_roots t.fits.0 input_is in
      let rest_is : spell (Task j) ≡ others = same_after (Setup r) (spell (Task j)) others (input_is ∙ ap (λ f. spell f ++ others) (sym same)) in
      answered_whole tree repo t.opened j answers (subst (λ js. AnswersAll tree repo (Rose none t.opened) t.opened none js answers) (one_job j jobs fits_job t.fits.1 rest_is) t.answered)

  -- no root has a fault, so the reply was written
  pub served_reply : (tree_place repo_place : Text) (n : ℕ) (old new : Option Text) → Served tree repo (spell (Setup r) ++ spell (Task j)) (counts 0 0) (counts 0 0) tree_place repo_place (Ok n) old new
      → new ≡ option_map (λ (text : Text). text ++ reply j tree repo) old
  unfolding none
  served_reply tree_place repo_place n old new s = s.wrote ∙ ap (λ frames. option_map (λ (text : Text). text ++ flat_map spell frames) old) (received_reply s.talk s.rest s.answers s.talked s.ends.0)

-- ---- in memory

content_is : (f g : Content) → ◌≡◌ {A = Option Content} (Some f) (Some g) → f ≡ g
content_is f g e = cc

-- a source that was opened has all of its file left
pub opened : (value first : Value) (at : ℕ) (bytes : Text) → at ≡ 0 → value ≡ first → ◌≡◌ {A = Option Content} (Some (λ _. first)) (Some (λ _. Some bytes)) → drop at (unwrap_or value []) ≡ bytes
opened value first at bytes start same known = ap (λ k. drop k (unwrap_or value [])) start ∙ ap (λ (v : Value). unwrap_or v []) (same ∙ ap (λ (f : Content). f []) (content_is (λ _. first) (λ _. Some bytes) known))

text_is : (x y : Text) → ◌≡◌ {A = Option Text} (Some x) (Some y) → x ≡ y
text_is x y e = cc

-- what was written to an empty sink is the answer
pub written_answer : (tree repo : Content) (frame : Text) (j : Job) (text : Text) (old new : Option Text) → IsJobFrame frame j
    → new ≡ option_map (λ (t : Text). t ++ reply j tree repo) old → old ≡ Some [] → new ≡ Some text → text ≡ answer tree repo frame
written_answer tree repo frame j text old new job wrote none is =
    text_is text (reply j tree repo) (sym is ∙ wrote ∙ ap (option_map (λ (t : Text). t ++ reply j tree repo)) none) ∙ sym (ap (answer_to tree repo) job.read)
