-- What the data folder of a sample cluster holds, by the cluster's number. Own.
use Rattle.std.specs.Prelude.{ℕ, zero, suc, ◌+◌, ◌*◌, List, [], ◌∷◌, codes, Some, None}
use Rattle.base_devices.specs.Content.{Content, put, lengthened}
use Rattle.base_model.specs.Text.{Text}
use Rattle.base_sample.specs.Bytes.{version_path, control_path, relation_path, relation_bytes, version_bytes, control_bytes, zeros}

-- its folders, each after that in which it lies
unfoldable pub sample_folders : List Text
sample_folders = codes "base" ∷ codes "base/5" ∷ codes "global" ∷ []

-- how many files it has, and how many segments its log
abbrev pub file_count : ℕ → ℕ
file_count n = 100 * n + 2

abbrev pub segment_count : ℕ → ℕ
segment_count n = 2 * n

-- the first n relation files
unfoldable pub relations : ℕ → Content
relations zero = λ path. None
relations (suc k) = put (relation_path k) (Some (relation_bytes k)) (relations k)

-- the files of a new cluster
abbrev pub made : ℕ → Content
made n = put control_path (Some control_bytes) (put version_path (Some version_bytes) (relations (100 * n)))

-- with one byte more in the first n relation files at a multiple of ten
unfoldable pub grown_by : ℕ → Content → Content
grown_by zero c = c
grown_by (suc k) c = lengthened (relation_path (10 * k)) (0 ∷ []) (grown_by k c)

abbrev pub grown : ℕ → Content
grown n = grown_by (10 * n) (made n)

-- without the first relation file, and with zeros in the second
abbrev pub spoiled : ℕ → Content
spoiled n = put (relation_path 1) (Some (zeros 512)) (put (relation_path 0) None (grown n))
