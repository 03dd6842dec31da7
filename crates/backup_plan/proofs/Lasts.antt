-- A plan has one last job where the control file is listed.
use Rattle.std.proofs.Common.{◌≡◌, ◌≢◌, inl, inr, ℕ, ◌+◌, Bool, true, false, List, [], ◌∷◌, length, refl, sym, ap, ◌∙◌, arith, length-append}
use Rattle.std.specs.Prelude.{bytes_eq, if◌then◌else◌, ◌==◌, ◌&&◌, nat_lt}
use Rattle.std.proofs.lemmas.Bool.{and_parts}
use Rattle.std.proofs.lemmas.Slice.Eq.{bytes_eq-Decides}
use Rattle.base_devices.specs.Order.{is_before, are_after, are_in_order}
use Rattle.worker_protocol.specs.Frames.{Job}
use Rattle.base_model.specs.Text.{In}
use Rattle.base_model.specs.Values.{FileEntry}
use Rattle.repo_ini.proofs.Orders.{not_itself}
use Rattle.backup_plan.specs.declared.values.PlanSettings.{PlanSettings}
use Rattle.backup_plan.specs.declared.values.What.{What}
use Rattle.backup_plan.specs.declared.values.What.TheVariants.{Leave, Nothing, Single, Small, Control}
use Rattle.backup_plan.specs.Listed.{Taken, entry_at, what, is_unchanged, control_path}
use Rattle.backup_plan.specs.Layout.{Layout, item_for, read_job, takes, bundled_by, laid, laid_all, layout, begin}
use Rattle.backup_plan.specs.Filter.{paths_of, HasFile}
use Rattle.backup_plan.proofs.Searched.{later}

abbrev one_if : Bool → ℕ
one_if b = if b then 1 else 0

-- how many of the files are the control file
abbrev controls : List Taken → ℕ
controls [] = 0
controls (f ∷ fs) = one_if (bytes_eq f.path control_path) + controls fs

-- ---- the last jobs are those of the control file

bundle_last : (b : Bool) (l : Layout) (f : Taken) → (bundled_by b l f).last ≡ l.last
bundle_last true l f = refl
bundle_last false l f = refl

other_last : (s : PlanSettings) (l : Layout) (f : Taken) (w : What) → w ≢ Control → (laid s l f w).last ≡ l.last
other_last s l f Leave off = refl
other_last s l f Nothing off = refl
other_last s l f Single off = refl
other_last s l f Small off = bundle_last (takes s l f.size) l f
other_last s l f Control off = absurd (off refl)

no_control : (b c d : Bool) → (if b then Nothing else (if c then Leave else (if d then Small else Single))) ≢ Control
no_control true c d e = let x : ◌≡◌ {A = What} Nothing Control = e in cc x
no_control false true d e = let x : ◌≡◌ {A = What} Leave Control = e in cc x
no_control false false true e = let x : ◌≡◌ {A = What} Small Control = e in cc x
no_control false false false e = let x : ◌≡◌ {A = What} Single Control = e in cc x

one_more : (s : PlanSettings) (old : List FileEntry) (l : Layout) (f : Taken) (e b : Bool) → bytes_eq f.path control_path ≡ b → length (laid s l f (what s (entry_at f.path old) f e)).last ≡ length l.last + one_if b
one_more s old l f e true is =
    let kind : what s (entry_at f.path old) f e ≡ Control = ap (λ (b : Bool). if b then Control else (if f.size == 0 then Nothing else (if is_unchanged s.delta (entry_at f.path old) f e then Leave else (if s.bundle && nat_lt f.size (s.bundle_limit + 1) then Small else Single)))) is in
    ap (λ (w : What). length (laid s l f w).last) kind ∙ length-append l.last (read_job (item_for f ∷ []) ∷ [])
one_more s old l f e false is =
    let kind : what s (entry_at f.path old) f e ≡ (if f.size == 0 then Nothing else (if is_unchanged s.delta (entry_at f.path old) f e then Leave else (if s.bundle && nat_lt f.size (s.bundle_limit + 1) then Small else Single))) = ap (λ (b : Bool). if b then Control else (if f.size == 0 then Nothing else (if is_unchanged s.delta (entry_at f.path old) f e then Leave else (if s.bundle && nat_lt f.size (s.bundle_limit + 1) then Small else Single)))) is in
    let off : what s (entry_at f.path old) f e ≢ Control = λ c. no_control (f.size == 0) (is_unchanged s.delta (entry_at f.path old) f e) (s.bundle && nat_lt f.size (s.bundle_limit + 1)) (sym kind ∙ c) in
    let same = ap (λ (js : List Job). length js) (other_last s l f (what s (entry_at f.path old) f e) off) in
    omega (arith, same)

count_last : (s : PlanSettings) (old : List FileEntry) (l : Layout) (fs : List Taken) (es : List Bool) → length es ≡ length fs → length (laid_all s old l fs es).last ≡ length l.last + controls fs
count_last s old l [] es same = omega arith
count_last s old l (f ∷ fs) [] same = absurd (omega (arith, same))
count_last s old l (f ∷ fs) (e ∷ es) same =
    let first = one_more s old l f e (bytes_eq f.path control_path) refl in
    let rest = count_last s old (laid s l f (what s (entry_at f.path old) f e)) fs es (omega (arith, same)) in
    omega (arith, first, rest)

-- ---- the control file is once

no_controls : (fs : List Taken) → ((f : Taken) → In f fs → f.path ≢ control_path) → controls fs ≡ 0
no_controls [] none = refl
no_controls (f ∷ fs) none = by (bytes_eq f.path control_path) refl (no_controls fs (λ g i. none g (inr i)))
  where
    by : (b : Bool) → bytes_eq f.path control_path ≡ b → controls fs ≡ 0 → one_if b + controls fs ≡ 0
    by true is rest = absurd (none f (inl refl) ((bytes_eq-Decides f.path control_path).0 is))
    by false is rest = omega (arith, rest)

one_control : (f : Taken) (fs : List Taken) → are_after f.path (paths_of fs) ≡ true → HasFile control_path (f ∷ fs) → controls (f ∷ fs) ≡ 1
one_control f fs order (inl is) =
    let here : bytes_eq f.path control_path ≡ true = (bytes_eq-Decides f.path control_path).1 (sym is) in
    let none = no_controls fs (λ g i e. not_itself f.path g.path (later (λ (t : Taken). t.path) f.path fs g order i) (sym is ∙ sym e)) in
    let first = ap one_if here in
    omega (arith, none, first)
one_control f [] order (inr i) = absurd i
one_control f (g ∷ fs) order (inr i) =
    let p = and_parts (is_before f.path g.path) (are_after g.path (paths_of fs)) order in
    let rest = one_control g fs p.1 i in
    by (bytes_eq f.path control_path) refl rest
  where
    by : (b : Bool) → bytes_eq f.path control_path ≡ b → controls (g ∷ fs) ≡ 1 → one_if b + controls (g ∷ fs) ≡ 1
    by true is rest = absurd (no_other (g ∷ fs) i (λ h j e. not_itself f.path h.path (later (λ (t : Taken). t.path) f.path (g ∷ fs) h order j) ((bytes_eq-Decides f.path control_path).0 is ∙ sym e)))
      where
        no_other : (hs : List Taken) → HasFile control_path hs → ((h : Taken) → In h hs → h.path ≢ control_path) → ⊥
        no_other [] k none = absurd k
        no_other (h ∷ hs) (inl e) none = none h (inl refl) (sym e)
        no_other (h ∷ hs) (inr k) none = no_other hs k (λ x j. none x (inr j))
    by false is rest = omega (arith, rest)

-- one control file is listed, and its job is the one last job
pub one_last : (s : PlanSettings) (old : List FileEntry) (fs : List Taken) (es : List Bool) → length es ≡ length fs → are_in_order (paths_of fs) ≡ true → HasFile control_path fs → length (layout s old fs es).last ≡ 1
one_last s old [] es same order has = absurd has
one_last s old (f ∷ fs) es same order has = let all = count_last s old begin (f ∷ fs) es same in let one = one_control f fs order has in omega (arith, all, one)
