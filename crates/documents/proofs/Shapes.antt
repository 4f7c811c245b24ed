-- Which texts are accepted: exactly those that carry a document.
use Rattle.std.proofs.Common.{◌≡◌, ℕ, ◌+◌, ◌-◌, ◌<◌, ◌≤◌, Bool, true, false, cond, ◌&&◌, eqb, leb, List, [], ◌∷◌, ◌++◌, length, get_or, take, Some, None, Option, sym, refl, ap, ◌∙◌, subst, ap₂, arith}
use Rattle.std.specs.Str.{bytes_eq}
use Rattle.std.proofs.lemmas.Slice.Eq.{bytes_eq-Decides}
use Rattle.std.proofs.lemmas.List.{append_assoc, append-nil, length_push, take_all, take_at, take_more, get_or_at}
use Rattle.std.proofs.lemmas.Bool.{false≢true, eqb-true, eqb-false, eq-eqb, ne_eqb, le-leb, leb-true, and_parts, and_from, cond-true, cond-false}
use Rattle.fields.specs.Faults.{Judged, good, bad, Told, fine, refused, at, then, time_field_of, optional_time_of}
use Rattle.fields.specs.Parts.{Part, longer, parts, nth_part, first, rest, bytes_of, join_by, Lacks, Clear}
use Rattle.fields.specs.Numbers.{number_field_of}
use Rattle.fields.specs.Levels.{level_field_of}
use Rattle.fields.proofs.Law.{cut_law}
use Rattle.documents.specs.Elements.{begin_of, end_of, time_at_of, computed_at_of}
use Rattle.documents.specs.Reading.{value_names, element_names, names, number_at, moment_at_of, value_parts, values, element_fields, element, nearest_in, depth_before, elements_after, elements, document_in, lines_of, read_document_of}
use Rattle.documents.specs.Laws.{line_of, text_of, Row, fields_in, row_lines, Reads, AllRead, Carries, Accepting}
use Rattle.documents.specs.declared.document.Document.{Document}
use Rattle.documents.specs.declared.element.Computed.{Computed}
use Rattle.documents.specs.declared.element.Element.{Element}
use Rattle.documents.specs.declared.text.Values.{Values}

-- Steps of a reading that ends well.

module _ {A B : Type 0} where
  then-fine : (t : Told A) (f : A → Told B) (y : B) → then t f ≡ fine y → (x : A) × (t ≡ fine x) × (f x ≡ fine y)
  then-fine (fine x) f y h = (x, refl, h)
  then-fine (refused n l o c) f y h = let z : ◌≡◌ {A = ℕ} 0 1 = cc in absurd (omega arith)

  then_is : (t : Told A) (f : A → Told B) (x : A) (y : B) → t ≡ fine x → f x ≡ fine y → then t f ≡ fine y
  then_is t f x y e g = ap (λ (u : Told A). then u f) e ∙ g

module _ {A : Type 0} where
  same-fine : (x y : A) → fine x ≡ fine y → x ≡ y
  same-fine x y h = cc

  at-fine : (line o : ℕ) (j : Judged A) (x : A) → at line o j ≡ fine x → j ≡ good x
  at-fine line o (good y) x h = ap good (same-fine y x h)
  at-fine line o (bad n c) x h = let z : ◌≡◌ {A = ℕ} 0 1 = cc in absurd (omega arith)

  at-is : (line o : ℕ) (j : Judged A) (x : A) → j ≡ good x → at line o j ≡ fine x
  at-is line o j x h = ap (at line o) h

  cond-fine : (b : Bool) (x : Told A) (n l o c : ℕ) (y : A) → cond b x (refused n l o c) ≡ fine y → (b ≡ true) × (x ≡ fine y)
  cond-fine true x n l o c y h = (refl, h)
  cond-fine false x n l o c y h = let z : ◌≡◌ {A = ℕ} 0 1 = cc in absurd (omega arith)

names_fine : (len line : ℕ) (expected : List ℕ) (o : Option Part) (u : Unit {0}) → names len line expected o ≡ fine u → (p : Part) × (o ≡ Some p) × (p.bytes ≡ expected)
names_fine len line expected None u h = let z : ◌≡◌ {A = ℕ} 0 1 = cc in absurd (omega arith)
names_fine len line expected (Some p) u h =
    let c = cond-fine (bytes_eq p.bytes expected) (fine tt) 2 line p.offset 0 u h in
    (p, refl, (bytes_eq-Decides p.bytes expected).0 c.0)

names_is : (len line : ℕ) (expected : List ℕ) (p : Part) → p.bytes ≡ expected → names len line expected (Some p) ≡ fine tt
names_is len line expected p e = cond-true (bytes_eq p.bytes expected) _ _ ((bytes_eq-Decides p.bytes expected).1 e)

first_some : (ps : List Part) (p : Part) → first ps ≡ Some p → ps ≡ p ∷ rest ps
first_some [] p h = let z : ◌≡◌ {A = ℕ} 0 1 = cc in absurd (omega arith)
first_some (q ∷ ps) p h = let e : q ≡ p = cc in ap (λ (x : Part). x ∷ ps) e

three_parts : (ps : List Part) → eqb (length ps) 3 ≡ true → ps ≡ nth_part ps 0 ∷ nth_part ps 1 ∷ nth_part ps 2 ∷ []
three_parts [] h = absurd (omega (arith, eqb-true 0 3 h))
three_parts (a ∷ []) h = absurd (omega (arith, eqb-true 1 3 h))
three_parts (a ∷ b ∷ []) h = absurd (omega (arith, eqb-true 2 3 h))
three_parts (a ∷ b ∷ c ∷ []) h = refl
three_parts (a ∷ b ∷ c ∷ d ∷ ps) h = absurd (omega (arith, eqb-true (length (a ∷ b ∷ c ∷ d ∷ ps)) 3 h))

four_parts : (ps : List Part) → eqb (length ps) 4 ≡ true → ps ≡ nth_part ps 0 ∷ nth_part ps 1 ∷ nth_part ps 2 ∷ nth_part ps 3 ∷ []
four_parts [] h = absurd (omega (arith, eqb-true 0 4 h))
four_parts (a ∷ []) h = absurd (omega (arith, eqb-true 1 4 h))
four_parts (a ∷ b ∷ []) h = absurd (omega (arith, eqb-true 2 4 h))
four_parts (a ∷ b ∷ c ∷ []) h = absurd (omega (arith, eqb-true 3 4 h))
four_parts (a ∷ b ∷ c ∷ d ∷ []) h = refl
four_parts (a ∷ b ∷ c ∷ d ∷ e ∷ ps) h = absurd (omega (arith, eqb-true (length (a ∷ b ∷ c ∷ d ∷ e ∷ ps)) 4 h))

-- Parts of texts that are joined.

longer_bytes : (k b : ℕ) (ps : List Part) (t : List ℕ) (ts : List (List ℕ)) → bytes_of ps ≡ t ∷ ts → bytes_of (longer k b ps) ≡ (b ∷ t) ∷ ts
longer_bytes k b [] t ts e = let z : ◌≡◌ {A = ℕ} 0 1 = cc in absurd (omega arith)
longer_bytes k b (p ∷ ps) t ts e = let x : p.bytes ≡ t = cc in let y : bytes_of ps ≡ ts = cc in ap₂ (λ (u : List ℕ) (us : List (List ℕ)). (b ∷ u) ∷ us) x y

parts_join : (sep k : ℕ) (t : List ℕ) (ts : List (List ℕ)) → Clear sep (t ∷ ts) → bytes_of (parts sep k (join_by sep (t ∷ ts))) ≡ t ∷ ts
parts_join sep k [] [] c = refl
parts_join sep k (b ∷ bs) [] c =
    ap bytes_of (cond-false (eqb b sep) _ _ (ne_eqb b sep c.0.0)) ∙ longer_bytes k b (parts sep (k + 1) bs) bs [] (parts_join sep (k + 1) bs [] (c.0.1, tt))
parts_join sep k [] (u ∷ us) c =
    ap bytes_of (cond-true (eqb sep sep) _ _ (eq-eqb sep sep refl)) ∙ ap (λ (xs : List (List ℕ)). [] ∷ xs) (parts_join sep (k + 1) u us c.1)
parts_join sep k (b ∷ bs) (u ∷ us) c =
    ap bytes_of (cond-false (eqb b sep) _ _ (ne_eqb b sep c.0.0))
    ∙ longer_bytes k b (parts sep (k + 1) (bs ++ sep ∷ join_by sep (u ∷ us))) bs (u ∷ us) (parts_join sep (k + 1) bs (u ∷ us) (c.0.1, c.1))

bytes_more : (ps : List Part) (t : List ℕ) (ts : List (List ℕ)) → bytes_of ps ≡ t ∷ ts → (p : Part) × (qs : List Part) × (ps ≡ p ∷ qs) × (p.bytes ≡ t) × (bytes_of qs ≡ ts)
bytes_more [] t ts e = let z : ◌≡◌ {A = ℕ} 0 1 = cc in absurd (omega arith)
bytes_more (p ∷ ps) t ts e = (p, ps, refl, cc, cc)

bytes_none : (ps : List Part) → bytes_of ps ≡ [] → ps ≡ []
bytes_none [] e = refl
bytes_none (p ∷ ps) e = let z : ◌≡◌ {A = ℕ} 0 1 = cc in absurd (omega arith)

-- the text of lines, and the lines with line feeds between them
lines_text_is : (l : List ℕ) (ls : List (List ℕ)) → join_by 10 (l ∷ ls) ++ (10 ∷ []) ≡ text_of (l ∷ ls)
lines_text_is l [] = sym (append-nil (l ++ (10 ∷ [])))
lines_text_is l (m ∷ ls) =
    append_assoc l (10 ∷ join_by 10 (m ∷ ls)) (10 ∷ [])
    ∙ ap (λ (x : List ℕ). l ++ (10 ∷ x)) (lines_text_is m ls)
    ∙ sym (append_assoc l (10 ∷ []) (text_of (m ∷ ls)))

lines_of_lem : (t l : List ℕ) (ls : List (List ℕ)) → t ≡ text_of (l ∷ ls) → Clear 10 (l ∷ ls) → bytes_of (lines_of t) ≡ l ∷ ls
lines_of_lem t l ls e c =
    let j : List ℕ = join_by 10 (l ∷ ls) in
    let f : t ≡ j ++ (10 ∷ []) = e ∙ sym (lines_text_is l ls) in
    let n : length t - 1 ≡ length j = (let k = ap length f ∙ length_push j 10 in omega arith) in
    ap₂ (λ (i : ℕ) (x : List ℕ). bytes_of (parts 10 0 (take i x))) n f
    ∙ ap (λ (x : List ℕ). bytes_of (parts 10 0 x)) (take_at j (10 ∷ []) (length j) refl)
    ∙ parts_join 10 0 l ls c

-- One element line.

record RowOf (es : List Element) (p : Part) (e : Element) : Type 0 where
  row : Row
  same : line_of (fields_in row) ≡ p.bytes
  clear : Clear 44 (fields_in row)
  reads : Reads es row e

element_fine : (n : ℕ) (es : List Element) (p : Part) (e : Element) → element n (depth_before es) (nearest_in es) p ≡ fine e → RowOf es p e
element_fine n es p e h =
    let ps : List Part = parts 44 p.offset p.bytes in
    let c = cond-fine (eqb (length ps) 3) _ 3 n p.offset 0 e h in
    let three = three_parts ps c.0 in
    let l : Part = nth_part ps 0 in
    let b : Part = nth_part ps 1 in
    let f : Part = nth_part ps 2 in
    let d = then-fine (at n l.offset (level_field_of (depth_before es) l.bytes)) _ e c.1 in
    let wb = then-fine (time_at_of n b) _ e d.2 in
    let we = then-fine (time_at_of n f) _ e wb.2 in
    let s = then-fine (computed_at_of n b.offset f.offset (nearest_in es (d.0 - 1)) wb.0 we.0) _ e we.2 in
    let cb = then-fine (at n b.offset (begin_of (nearest_in es (d.0 - 1)) wb.0)) _ s.0 s.1 in
    let ce = then-fine (at n f.offset (end_of (nearest_in es (d.0 - 1)) we.0)) _ s.0 cb.2 in
    let r : Row = record { level = l.bytes; begin = b.bytes; end = f.bytes } in
    let cut = cut_law 44 p.offset p.bytes in
    let x : Element = record { depth = d.0; begin = wb.0; end = we.0; computed = record { begin = cb.0; end = ce.0 } } in
    let x-is : x ≡ e = ap (λ (k : Computed). record { depth = d.0; begin = wb.0; end = we.0; computed = k }) (same-fine _ _ ce.2) ∙ same-fine _ _ s.2 in
    let reads : Reads es r x = record {
      level = at-fine n l.offset _ d.0 d.1;
      begin = at-fine n b.offset _ wb.0 wb.1;
      end = at-fine n f.offset _ we.0 we.1;
      computed_begin = at-fine n b.offset _ cb.0 cb.1;
      computed_end = at-fine n f.offset _ ce.0 ce.1;
    } in
    record {
      row = r;
      same = ap (λ (qs : List Part). join_by 44 (bytes_of qs)) (sym three) ∙ cut.0;
      clear = subst (λ (qs : List Part). Clear 44 (bytes_of qs)) three cut.1;
      reads = subst (Reads es r) x-is reads;
    }

element_is : (n : ℕ) (es : List Element) (p : Part) (r : Row) (e : Element) → p.bytes ≡ line_of (fields_in r) → Clear 44 (fields_in r) → Reads es r e → element n (depth_before es) (nearest_in es) p ≡ fine e
element_is n es p r e same clear h =
    let ps : List Part = parts 44 p.offset p.bytes in
    let bs : bytes_of ps ≡ fields_in r = ap (λ (x : List ℕ). bytes_of (parts 44 p.offset x)) same ∙ parts_join 44 p.offset r.level (r.begin ∷ r.end ∷ []) clear in
    let l = bytes_more ps _ _ bs in
    let b = bytes_more l.1 _ _ l.4 in
    let f = bytes_more b.1 _ _ b.4 in
    let all : ps ≡ l.0 ∷ b.0 ∷ f.0 ∷ [] = l.2 ∙ ap (λ (qs : List Part). l.0 ∷ qs) (b.2 ∙ ap (λ (qs : List Part). b.0 ∷ qs) (f.2 ∙ ap (λ (qs : List Part). f.0 ∷ qs) (bytes_none f.1 f.4))) in
    let parent : Computed = nearest_in es (e.depth - 1) in
    ap (λ (qs : List Part). cond (eqb (length qs) 3) (element_fields n (depth_before es) (nearest_in es) (nth_part qs 0) (nth_part qs 1) (nth_part qs 2)) (refused 3 n p.offset 0)) all
    ∙ then_is (at n l.0.offset (level_field_of (depth_before es) l.0.bytes)) _ e.depth e (at-is n l.0.offset _ e.depth (ap (level_field_of (depth_before es)) l.3 ∙ h.level))
    (then_is (time_at_of n b.0) _ e.begin e (at-is n b.0.offset _ e.begin (ap optional_time_of b.3 ∙ h.begin))
    (then_is (time_at_of n f.0) _ e.end e (at-is n f.0.offset _ e.end (ap optional_time_of f.3 ∙ h.end))
    (then_is (computed_at_of n b.0.offset f.0.offset parent e.begin e.end) _ e.computed e
    (then_is (at n b.0.offset (begin_of parent e.begin)) _ e.computed.begin e.computed (at-is n b.0.offset _ e.computed.begin h.computed_begin)
    (then_is (at n f.0.offset (end_of parent e.end)) _ e.computed.end e.computed (at-is n f.0.offset _ e.computed.end h.computed_end) refl))
    refl)))

-- All element lines.

rows_fine : (n : ℕ) (es all : List Element) (qs : List Part) → Clear 10 (bytes_of qs) → elements_after n es qs ≡ fine all → (rows : List Row) × (row_lines rows ≡ bytes_of qs) × AllRead es rows all
rows_fine n es all [] c h = ([], refl, same-fine es all h)
rows_fine n es all (q ∷ qs) c h =
    let e = then-fine (element n (depth_before es) (nearest_in es) q) _ all h in
    let r = element_fine n es q e.0 e.1 in
    let more = rows_fine (n + 1) (e.0 ∷ es) all qs c.1 e.2 in (
      r.row ∷ more.0,
      ap₂ (λ (x : List ℕ) (xs : List (List ℕ)). x ∷ xs) r.same more.1,
      (e.0, (r.clear, subst (Lacks 10) (sym r.same) c.0), r.reads, more.2),
    )

rows_is : (n : ℕ) (es all : List Element) (rows : List Row) (qs : List Part) → bytes_of qs ≡ row_lines rows → AllRead es rows all → elements_after n es qs ≡ fine all
rows_is n es all [] qs b h = ap (elements_after n es) (bytes_none qs b) ∙ ap fine h
rows_is n es all (r ∷ rows) qs b h =
    let q = bytes_more qs _ _ b in
    ap (elements_after n es) q.2
    ∙ then_is (element n (depth_before es) (nearest_in es) q.0) _ h.0 all (element_is n es q.0 r h.0 q.3 h.1.0 h.2) (rows_is (n + 1) (h.0 ∷ es) all rows q.1 q.4 h.3)

-- The value line.

record ValuesOf (p : Part) (v : Values) : Type 0 where
  number : List ℕ
  available : List ℕ
  content : List ℕ
  dur : List ℕ
  same : line_of (number ∷ available ∷ content ∷ dur ∷ []) ≡ p.bytes
  clear : Clear 44 (number ∷ available ∷ content ∷ dur ∷ [])
  number_is : number_field_of 1 number ≡ good v.number
  available_is : time_field_of available ≡ good v.available
  content_is : number_field_of 0 content ≡ good v.content
  dur_is : optional_time_of dur ≡ good v.dur

values_fine : (len : ℕ) (p : Part) (v : Values) → values len (Some p) ≡ fine v → ValuesOf p v
values_fine len p v h =
    let ps : List Part = parts 44 p.offset p.bytes in
    let c = cond-fine (eqb (length ps) 4) _ 3 2 p.offset 0 v h in
    let four = four_parts ps c.0 in
    let a0 : Part = nth_part ps 0 in
    let a1 : Part = nth_part ps 1 in
    let a2 : Part = nth_part ps 2 in
    let a3 : Part = nth_part ps 3 in
    let n = then-fine (number_at 1 a0) _ v c.1 in
    let a = then-fine (moment_at_of a1) _ v n.2 in
    let k = then-fine (number_at 0 a2) _ v a.2 in
    let d = then-fine (time_at_of 2 a3) _ v k.2 in
    let cut = cut_law 44 p.offset p.bytes in
    let is = same-fine _ _ d.2 in
    record {
      number = a0.bytes;
      available = a1.bytes;
      content = a2.bytes;
      dur = a3.bytes;
      same = ap (λ (qs : List Part). join_by 44 (bytes_of qs)) (sym four) ∙ cut.0;
      clear = subst (λ (qs : List Part). Clear 44 (bytes_of qs)) four cut.1;
      number_is = at-fine 2 a0.offset _ n.0 n.1 ∙ ap (λ (w : Values). good w.number) is;
      available_is = at-fine 2 a1.offset _ a.0 a.1 ∙ ap (λ (w : Values). good w.available) is;
      content_is = at-fine 2 a2.offset _ k.0 k.1 ∙ ap (λ (w : Values). good w.content) is;
      dur_is = at-fine 2 a3.offset _ d.0 d.1 ∙ ap (λ (w : Values). good w.dur) is;
    }

values_is : (len : ℕ) (p : Part) (v : Values) → ValuesOf p v → values len (Some p) ≡ fine v
values_is len p v h =
    let ps : List Part = parts 44 p.offset p.bytes in
    let bs : bytes_of ps ≡ h.number ∷ h.available ∷ h.content ∷ h.dur ∷ [] = ap (λ (x : List ℕ). bytes_of (parts 44 p.offset x)) (sym h.same) ∙ parts_join 44 p.offset h.number (h.available ∷ h.content ∷ h.dur ∷ []) h.clear in
    let n = bytes_more ps _ _ bs in
    let a = bytes_more n.1 _ _ n.4 in
    let k = bytes_more a.1 _ _ a.4 in
    let d = bytes_more k.1 _ _ k.4 in
    let all : ps ≡ n.0 ∷ a.0 ∷ k.0 ∷ d.0 ∷ [] = n.2 ∙ ap (λ (qs : List Part). n.0 ∷ qs) (a.2 ∙ ap (λ (qs : List Part). a.0 ∷ qs) (k.2 ∙ ap (λ (qs : List Part). k.0 ∷ qs) (d.2 ∙ ap (λ (qs : List Part). d.0 ∷ qs) (bytes_none d.1 d.4)))) in
    ap (λ (qs : List Part). value_parts p.offset qs) all
    ∙ then_is (number_at 1 n.0) _ v.number v (at-is 2 n.0.offset _ v.number (ap (number_field_of 1) n.3 ∙ h.number_is))
    (then_is (moment_at_of a.0) _ v.available v (at-is 2 a.0.offset _ v.available (ap time_field_of a.3 ∙ h.available_is))
    (then_is (number_at 0 k.0) _ v.content v (at-is 2 k.0.offset _ v.content (ap (number_field_of 0) k.3 ∙ h.content_is))
    (then_is (time_at_of 2 d.0) _ v.dur v (at-is 2 d.0.offset _ v.dur (ap optional_time_of d.3 ∙ h.dur_is)) refl)))

-- The whole text.

-- a text that ends in a line feed is its lines
text_again : (t : List ℕ) → 1 ≤ length t → get_or t (length t - 1) 0 ≡ 10 → (p : Part) (ps : List Part) → lines_of t ≡ p ∷ ps → (t ≡ text_of (bytes_of (lines_of t))) × Clear 10 (bytes_of (lines_of t))
text_again t h e p ps l =
    let cut = cut_law 10 0 (take (length t - 1) t) in
    let n : length t - 1 + 1 ≡ length t = omega arith in (
      sym (take_all (length t - 1 + 1) t (omega arith))
          ∙ take_more t (length t - 1) 0 (omega arith)
          ∙ ap (λ b. take (length t - 1) t ++ b ∷ []) e
          ∙ ap (λ (x : List ℕ). x ++ (10 ∷ [])) (sym cut.0 ∙ ap (λ (qs : List Part). join_by 10 (bytes_of qs)) l)
          ∙ lines_text_is p.bytes (bytes_of ps)
          ∙ ap (λ (qs : List Part). text_of (bytes_of qs)) (sym l),
      cut.1,
    )

elements_some : (len : ℕ) (qs : List Part) (es : List Element) → elements len qs ≡ fine es → (elements_after 4 [] qs ≡ fine es) × (0 < length qs)
elements_some len [] es h = let z : ◌≡◌ {A = ℕ} 0 1 = cc in absurd (omega arith)
elements_some len (q ∷ qs) es h = (h, omega arith)

elements_is : (len : ℕ) (qs : List Part) (es : List Element) → 0 < length qs → elements_after 4 [] qs ≡ fine es → elements len qs ≡ fine es
elements_is len [] es h e = absurd (omega arith)
elements_is len (q ∷ qs) es h e = e

length_bytes : (ps : List Part) → length (bytes_of ps) ≡ length ps
length_bytes [] = refl
length_bytes (p ∷ ps) = let h = length_bytes ps in omega arith

length_rows : (rs : List Row) → length (row_lines rs) ≡ length rs
length_rows [] = refl
length_rows (r ∷ rs) = let h = length_rows rs in omega arith

accepted : (t : List ℕ) (d : Document) → read_document_of t ≡ fine d → Carries t d
accepted t d h =
    let c = cond-fine (leb 1 (length t) && (leb (length t) 4096 && eqb (get_or t (length t - 1) 0) 10)) _ 1 0 0 0 d h in
    let f = and_parts (leb 1 (length t)) _ c.0 in
    let g = and_parts (leb (length t) 4096) _ f.1 in
    let ps : List Part = lines_of t in
    let n1 = then-fine (names (length t) 1 value_names (first ps)) _ d c.1 in
    let v = then-fine (values (length t) (first (rest ps))) _ d n1.2 in
    let n3 = then-fine (names (length t) 3 element_names (first (rest (rest ps)))) _ d v.2 in
    let es = then-fine (elements (length t) (rest (rest (rest ps)))) _ d n3.2 in
    let p1 = names_fine (length t) 1 value_names (first ps) n1.0 n1.1 in
    let p3 = names_fine (length t) 3 element_names (first (rest (rest ps))) n3.0 n3.1 in
    let p2 = value_there (length t) (first (rest ps)) v.0 v.1 in
    let some = elements_some (length t) (rest (rest (rest ps))) es.0 es.1 in
    let l1 = first_some ps p1.0 p1.1 in
    let l2 = first_some (rest ps) p2.0 p2.1 in
    let l3 = first_some (rest (rest ps)) p3.0 p3.1 in
    let all : ps ≡ p1.0 ∷ p2.0 ∷ p3.0 ∷ rest (rest (rest ps)) = l1 ∙ ap (λ (qs : List Part). p1.0 ∷ qs) (l2 ∙ ap (λ (qs : List Part). p2.0 ∷ qs) l3) in
    let again = text_again t (leb-true _ _ f.0) (eqb-true _ _ g.1) _ _ all in
    let clear : Clear 10 (bytes_of (p1.0 ∷ p2.0 ∷ p3.0 ∷ rest (rest (rest ps)))) = subst (λ (qs : List Part). Clear 10 (bytes_of qs)) all again.1 in
    let rows = rows_fine 4 [] es.0 (rest (rest (rest ps))) clear.1.1.1 some.0 in
    let w = values_fine (length t) p2.0 v.0 p2.2 in
    let is = same-fine _ _ es.2 in
    record {
      number = w.number;
      available = w.available;
      content = w.content;
      dur = w.dur;
      rows = rows.0;
      elements = es.0;
      text = again.0 ∙ ap (λ (qs : List Part). text_of (bytes_of qs)) all
          ∙ ap (λ (x : List ℕ). text_of (x ∷ p2.0.bytes ∷ p3.0.bytes ∷ bytes_of (rest (rest (rest ps))))) p1.2
          ∙ ap (λ (x : List ℕ). text_of (value_names ∷ x ∷ p3.0.bytes ∷ bytes_of (rest (rest (rest ps))))) (sym w.same)
          ∙ ap (λ (x : List ℕ). text_of (value_names ∷ line_of (w.number ∷ w.available ∷ w.content ∷ w.dur ∷ []) ∷ x ∷ bytes_of (rest (rest (rest ps))))) p3.2
          ∙ ap (λ (xs : List (List ℕ)). text_of (value_names ∷ line_of (w.number ∷ w.available ∷ w.content ∷ w.dur ∷ []) ∷ element_names ∷ xs)) (sym rows.1);
      short = leb-true _ _ g.0;
      some = omega (arith, some.1, length_bytes (rest (rest (rest ps))), length_rows rows.0, ap length rows.1);
      value_line = (w.clear, subst (Lacks 10) (sym w.same) clear.1.0);
      number_is = w.number_is ∙ ap (λ (x : Document). good x.number) is;
      available_is = w.available_is ∙ ap (λ (x : Document). good x.available) is;
      content_is = w.content_is ∙ ap (λ (x : Document). good x.content) is;
      dur_is = w.dur_is ∙ ap (λ (x : Document). good x.dur) is;
      read = rows.2;
      begin_is = sym (ap (λ (x : Document). x.begin) is);
      end_is = sym (ap (λ (x : Document). x.end) is);
    }
  where
    value_there : (len : ℕ) (o : Option Part) (v : Values) → values len o ≡ fine v → (p : Part) × (o ≡ Some p) × (values len (Some p) ≡ fine v)
    value_there len None v h = let z : ◌≡◌ {A = ℕ} 0 1 = cc in absurd (omega arith)
    value_there len (Some p) v h = (p, refl, h)

rows_clear : (es all : List Element) (rows : List Row) → AllRead es rows all → Clear 10 (row_lines rows)
rows_clear es all [] h = tt
rows_clear es all (r ∷ rows) h = (h.1.1, rows_clear (h.0 ∷ es) all rows h.3)

abbrev plain : List ℕ → Bool
plain [] = true
plain (b ∷ bs) = cond (eqb b 10) false (plain bs)

lacks : (bs : List ℕ) → plain bs ≡ true → Lacks 10 bs
lacks [] h = tt
lacks (b ∷ bs) h =
    elim (eqb b 10) as (λ v. eqb b 10 ≡ v → cond v false (plain bs) ≡ true → Lacks 10 (b ∷ bs))
    [ true ↦ (λ _ z. absurd (false≢true z)) | false ↦ (λ f z. (eqb-false b 10 f, lacks bs z)) ] refl h

names_clear : Lacks 10 value_names × Lacks 10 element_names
names_clear = (lacks value_names refl, lacks element_names refl)

accepts : (t : List ℕ) (d : Document) → Carries t d → read_document_of t ≡ fine d
accepts t d c =
    let v : Values = record { number = d.number; available = d.available; content = d.content; dur = d.dur } in
    let line : List ℕ = line_of (c.number ∷ c.available ∷ c.content ∷ c.dur ∷ []) in
    let bs = lines_of_lem t value_names (line ∷ element_names ∷ row_lines c.rows) c.text (names_clear.0, (c.value_line.1, (names_clear.1, rows_clear [] c.elements c.rows c.read))) in
    let p1 = bytes_more (lines_of t) _ _ bs in
    let p2 = bytes_more p1.1 _ _ p1.4 in
    let p3 = bytes_more p2.1 _ _ p2.4 in
    let all : lines_of t ≡ p1.0 ∷ p2.0 ∷ p3.0 ∷ p3.1 = p1.2 ∙ ap (λ (qs : List Part). p1.0 ∷ qs) (p2.2 ∙ ap (λ (qs : List Part). p2.0 ∷ qs) p3.2) in
    let j : List ℕ = join_by 10 (value_names ∷ line ∷ element_names ∷ row_lines c.rows) in
    let f : t ≡ j ++ (10 ∷ []) = c.text ∙ sym (lines_text_is value_names (line ∷ element_names ∷ row_lines c.rows)) in
    let n : length t ≡ length j + 1 = ap length f ∙ length_push j 10 in
    let before : length t - 1 ≡ length j = omega arith in
    let last : get_or t (length t - 1) 0 ≡ 10 = ap₂ (λ (i : ℕ) (x : List ℕ). get_or x i 0) before f ∙ get_or_at j 10 [] 0 (length j) refl in
    let test : (leb 1 (length t) && (leb (length t) 4096 && eqb (get_or t (length t - 1) 0) 10)) ≡ true = and_from _ _ (le-leb _ _ (omega arith)) (and_from _ _ (le-leb _ _ c.short) (eq-eqb _ _ last)) in
    let w : ValuesOf p2.0 v = record { number = c.number; available = c.available; content = c.content; dur = c.dur; same = sym p2.3; clear = c.value_line.0; number_is = c.number_is; available_is = c.available_is; content_is = c.content_is; dur_is = c.dur_is } in
    let many : 0 < length p3.1 = omega (arith, c.some, length_bytes p3.1, length_rows c.rows, ap length p3.4) in
    cond-true _ _ _ test
    ∙ ap (document_in (length t)) all
    ∙ then_is (names (length t) 1 value_names (Some p1.0)) _ tt d (names_is (length t) 1 value_names p1.0 p1.3)
    (then_is (values (length t) (Some p2.0)) _ v d (values_is (length t) p2.0 v w)
    (then_is (names (length t) 3 element_names (Some p3.0)) _ tt d (names_is (length t) 3 element_names p3.0 p3.3)
    (then_is (elements (length t) p3.1) _ c.elements d (elements_is (length t) p3.1 c.elements many (rows_is 4 [] c.elements c.rows p3.1 p3.4 c.read))
    (ap₂ (λ (b e : Option ℕ). fine (record { number = d.number; available = d.available; begin = b; end = e; dur = d.dur; content = d.content })) (sym c.begin_is) (sym c.end_is)))))

pub accepting : Accepting
accepting t d = (accepted t d, accepts t d)
