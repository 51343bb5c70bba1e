-- The lists of a file, one after the other: where reading stops, that nothing is left over, and the mesh that was read.
-- Assumes nothing.
use mathlib.Core.Path.{◌≡◌, refl, sym, ap}
use mathlib.Core.List.{List, []}
use Prim.Native.Nat.{ℕ, ◌+◌, ◌*◌, ◌≤◌, ◌<◌}
use native.Mathlib.Omega.{arith}
use lib.ListN.{length, drop, drop_of_length-le}
use lib.Seq.{drop-cons}
use Rattle.std.specs.Prelude.{Result, Ok, Err}
use Rattle.geom.specs.declared.answer.Sizes.{Sizes}
use Rattle.geom.specs.declared.refusal.Refusal.{Refusal}
use Rattle.geom.specs.Answers.{number_of}
use Rattle.geom.specs.declared.kind.Kind as Declared
use Rattle.geom.specs.Book.{Kind}
use Rattle.geom.specs.Kinds.{kind_of}
use Rattle.geom.specs.Mesh.{sizes_of}
use Rattle.geom.specs.Memory.{area_corners, volume_corners}
use Rattle.geom.specs.File.{Reader, Figure, read, stop, ◌>>=◌, counted, vertex, number, line, element, curves, lists, end}
use Rattle.geom.proofs.Rows.{length_first_of}
use Rattle.fields.specs.Fields.{word_at, vertex_at, element_at, wide, Counted, WoundAll}
use Rattle.fields.specs.Listed.{listed, Listed}
use Rattle.reading.specs.Parts.{strung}
use Rattle.fields.proofs.Listing.{first_stops, list_stops}
use Rattle.reading.specs.declared.judging.Mesh as Found
use Rattle.reading.specs.Places.{end_place, mesh_at, Fits, Lain}

-- the lists, and that nothing is left over
unfoldable pub lying : Kind → Sizes → Reader Figure
lying kind lent = do
  mesh ← lists kind lent
  end (record { kind = kind; mesh = mesh })

-- the mesh is read from the lists
abbrev pub Lies : Result Found.Mesh Refusal → Declared.Kind → Sizes → List ℕ → Type 0
Lies (Ok m) kind lent bytes =
    (m.kind ≡ kind)
    × (lying (kind_of kind) lent (drop 2 bytes) ≡ read (record { kind = kind_of kind; mesh = mesh_at (kind_of kind) m.sizes bytes }) [])
    × Lain (kind_of kind) m.sizes bytes
    × Fits m.sizes lent
Lies (Err r) kind lent bytes = lying (kind_of kind) lent (drop 2 bytes) ≡ stop (number_of r)

-- 4: bytes left over
end_some : (x : Figure) (bytes : List ℕ) (at : ℕ) → at < length bytes → end x (drop at bytes) ≡ stop 4
unfolding end
end_some x bytes at h = ap (end x) (drop-cons bytes at 0 h)

end_none : (x : Figure) (bytes : List ℕ) (at : ℕ) → length bytes ≤ at → end x (drop at bytes) ≡ read x []
unfolding end
end_none x bytes at h = ap (end x) (drop_of_length-le bytes h)

module _ (kind : Kind) (lent : Sizes) (bytes : List ℕ) where
  abbrev pub stops : ℕ → Type 0
  stops k = lying kind lent (drop 2 bytes) ≡ stop k

  lying_stops : (k : ℕ) → lists kind lent (drop 2 bytes) ≡ stop k → stops k
  unfolding lying
  lying_stops k e = rw e refl

  pub vertices_stop : (k : ℕ) → listed lent.vertices vertex (drop 2 bytes) ≡ stop k → stops k
  unfolding lists
  vertices_stop k e = lying_stops k (list_stops _ _ k vertex _ e)

  module _ (n : ℕ) (v : Listed bytes 2 lent.vertices 25 n (λ (i : ℕ). vertex_at bytes (6 + 25 * i)) vertex) where
    abbrev pub at1 : ℕ
    at1 = 6 + 25 * n

    pub points_stop : (k : ℕ) → listed lent.points (number n) (drop at1 bytes) ≡ stop k → stops k
    unfolding lists
    points_stop k e = lying_stops k (rw (v.count.reads.reads, v.rows.reads) (list_stops _ _ k (number n) _ e))

    module _ (np : ℕ) (p : Listed bytes at1 lent.points 4 np (λ (i : ℕ). word_at bytes (at1 + 4 + 4 * i)) (number n)) where
      abbrev pub at2 : ℕ
      at2 = at1 + 4 + 4 * np

      pub lines_stop : (k : ℕ) → listed lent.lines (element n 2) (drop at2 bytes) ≡ stop k → stops k
      unfolding lists line
      lines_stop k e = lying_stops k (rw (v.count.reads.reads, v.rows.reads, p.count.reads.reads, p.rows.reads) (list_stops _ _ k (element n 2) _ e))

      module _ (nl : ℕ) (l : Listed bytes at2 lent.lines 9 nl (λ (i : ℕ). element_at 2 bytes (at2 + 4 + 9 * i)) (element n 2)) where
        abbrev pub at3 : ℕ
        at3 = at2 + 4 + 9 * nl

        pub areas_stop : (k : ℕ) → listed lent.areas (element n (area_corners kind)) (drop at3 bytes) ≡ stop k → stops k
        unfolding lists line
        areas_stop k e =
            lying_stops k
            (rw (v.count.reads.reads, v.rows.reads, p.count.reads.reads, p.rows.reads, l.count.reads.reads, l.rows.reads)
            (list_stops _ _ k (element n (area_corners kind)) _ e))

        module _ (na : ℕ) (a : Listed bytes at3 lent.areas (wide (area_corners kind)) na (λ (i : ℕ). element_at (area_corners kind) bytes (at3 + 4 + wide (area_corners kind) * i)) (element n (area_corners kind))) where
          abbrev pub at4 : ℕ
          at4 = at3 + 4 + wide (area_corners kind) * na

          pub volumes_stop : (k : ℕ) → listed lent.volumes (element n (volume_corners kind)) (drop at4 bytes) ≡ stop k → stops k
          unfolding lists line
          volumes_stop k e =
              lying_stops k
              (rw (v.count.reads.reads, v.rows.reads, p.count.reads.reads, p.rows.reads, l.count.reads.reads, l.rows.reads, a.count.reads.reads, a.rows.reads)
              (list_stops _ _ k (element n (volume_corners kind)) _ e))

          module _ (ns : ℕ) (s : Listed bytes at4 lent.volumes (wide (volume_corners kind)) ns (λ (i : ℕ). element_at (volume_corners kind) bytes (at4 + 4 + wide (volume_corners kind) * i)) (element n (volume_corners kind))) where
            abbrev pub at5 : ℕ
            at5 = at4 + 4 + wide (volume_corners kind) * ns

            pub curves_stop : (k : ℕ) → strung lent.curves n lent.curve_vertices (drop at5 bytes) ≡ stop k → stops k
            unfolding lists line strung
            curves_stop k e =
                lying_stops k
                (rw (v.count.reads.reads, v.rows.reads, p.count.reads.reads, p.rows.reads, l.count.reads.reads, l.rows.reads, a.count.reads.reads, a.rows.reads, s.count.reads.reads, s.rows.reads)
                (first_stops k (counted lent.curves (drop at5 bytes)) (λ (c : ℕ). curves n lent.curve_vertices c 0) _ e))

            module _ (nc : ℕ) (c : Counted bytes at5 lent.curves nc) where
              module _ (nv : ℕ) (w : WoundAll bytes (at5 + 4) nc n lent.curve_vertices nv) where
                abbrev pub sizes : Sizes
                sizes =
                    record { vertices = n; points = np; lines = nl; areas = na; volumes = ns; curves = nc; curve_vertices = nv }

                lists_read : lists kind lent (drop 2 bytes) ≡ read (mesh_at kind sizes bytes) (drop (end_place kind sizes) bytes)
                unfolding lists line mesh_at
                lists_read =
                    rw (v.count.reads.reads, v.rows.reads, p.count.reads.reads, p.rows.reads, l.count.reads.reads, l.rows.reads, a.count.reads.reads, a.rows.reads, s.count.reads.reads, s.rows.reads, c.reads.reads, w.reads.reads)
                    refl

                pub left_over : end_place kind sizes < length bytes → stops 4
                unfolding lying
                left_over h = rw lists_read (end_some (record { kind = kind; mesh = mesh_at kind sizes bytes }) bytes (end_place kind sizes) h)

                pub all_read : length bytes ≤ end_place kind sizes → lying kind lent (drop 2 bytes) ≡ read (record { kind = kind; mesh = mesh_at kind sizes bytes }) []
                unfolding lying
                all_read h = rw lists_read (end_none (record { kind = kind; mesh = mesh_at kind sizes bytes }) bytes (end_place kind sizes) h)

                sizes_read : sizes_of (mesh_at kind sizes bytes) ≡ sizes
                unfolding sizes_of mesh_at
                sizes_read = simp length_first_of (rw (← w.sum) refl)

                pub all_lain : length bytes ≤ end_place kind sizes → Lain kind sizes bytes
                all_lain h = record { sizes = sizes_read; whole = omega (arith, w.reads.stands); curves = sym w.place; some = w.some }

                pub all_fits : Fits sizes lent
                all_fits =
                    record {
                      vertices = v.count.room;
                      points = p.count.room;
                      lines = l.count.room;
                      areas = a.count.room;
                      volumes = s.count.room;
                      curves = c.room;
                      steps = w.room;
                    }
