-- Two words that stand for one instruction of the programs are one word, so their words are those written out.
use Rattle.std.proofs.Common.{◌≡◌, ℕ, ◌+◌, ◌*◌, ◌^◌, ◌<◌, ◌==◌, ◌&&◌, ℤ, pos, true, false, Option, Some, None, List, []}
use Rattle.std.proofs.Common.{◌∷◌, map, slice_get, zero, suc, refl, ap, sym, ◌∙◌, if◌then◌else◌, arith, rules}
use Rattle.std.specs.List.{range_with_len, AllByRecursion}
use Rattle.std.specs.Option.{option_map}
use Rattle.std.proofs.lemmas.Bool.{eqb-true, and_parts}
use Rattle.std.proofs.lemmas.Option.{slice_get-map}
use Rattle.rv_table.specs.Fields.{opcode, rd, funct3, rs1, rs2, funct7, shamt, bits, signed, i_immediate, s_immediate}
use Rattle.rv_table.specs.Fields.{b_immediate, u_immediate}
use Rattle.rv_table.specs.Table.{Row, table, fits, first_fit, instr_of_word, i_type, r_type, s_type, b_type, u_type}
use Rattle.rv_table.specs.Table.{shift, one_word}
use Rattle.rv_table.specs.declared.instr.Instr.{Instr}
use Rattle.rv_table.specs.declared.instr.Instr.TheVariants.{Lui, Auipc, Jal, Jalr, Branch, Load, Store, OpImm, Op}
use Rattle.rv_table.specs.declared.instr.Instr.TheVariants.{Fence, Ecall, Ebreak}
use Rattle.rv_table.specs.declared.instr.Cond.{Cond}
use Rattle.rv_table.specs.declared.instr.LoadWidth.{LoadWidth}
use Rattle.rv_table.specs.declared.instr.StoreWidth.{StoreWidth}
use Rattle.rv_table.specs.declared.instr.ImmOp.{ImmOp}
use Rattle.rv_table.specs.declared.instr.RegOp.{RegOp}
use Rattle.rv_table.specs.declared.instr.Cond.TheVariants as cond
use Rattle.rv_table.specs.declared.instr.LoadWidth.TheVariants as load
use Rattle.rv_table.specs.declared.instr.StoreWidth.TheVariants as store
use Rattle.rv_table.specs.declared.instr.ImmOp.TheVariants as imm_op
use Rattle.rv_table.specs.declared.instr.RegOp.TheVariants as reg_op
use Rattle.load_gen.specs.Programs.{breadth_first_walk, nested_additions, walk_words, nest_words}

abbrev branch_row : Cond → ℕ
branch_row cond.Eq = 4
branch_row cond.Ne = 5
branch_row cond.Lt = 6
branch_row cond.Ge = 7
branch_row cond.Ltu = 8
branch_row cond.Geu = 9

abbrev load_row : LoadWidth → ℕ
load_row load.B = 10
load_row load.H = 11
load_row load.W = 12
load_row load.Bu = 13
load_row load.Hu = 14

abbrev store_row : StoreWidth → ℕ
store_row store.B = 15
store_row store.H = 16
store_row store.W = 17

abbrev imm_row : ImmOp → ℕ
imm_row imm_op.Add = 18
imm_row imm_op.Slt = 19
imm_row imm_op.Sltu = 20
imm_row imm_op.Xor = 21
imm_row imm_op.Or = 22
imm_row imm_op.And = 23
imm_row imm_op.Sll = 24
imm_row imm_op.Srl = 25
imm_row imm_op.Sra = 26

abbrev op_row : RegOp → ℕ
op_row reg_op.Add = 27
op_row reg_op.Sub = 28
op_row reg_op.Sll = 29
op_row reg_op.Slt = 30
op_row reg_op.Sltu = 31
op_row reg_op.Xor = 32
op_row reg_op.Srl = 33
op_row reg_op.Sra = 34
op_row reg_op.Or = 35
op_row reg_op.And = 36

-- the place of an instruction's row in the table
abbrev row_of : Instr → ℕ
row_of (Lui rd imm) = 0
row_of (Auipc rd imm) = 1
row_of (Jal rd imm) = 2
row_of (Jalr rd rs1 imm) = 3
row_of (Branch c rs1 rs2 imm) = branch_row c
row_of (Load w rd rs1 imm) = load_row w
row_of (Store w rs1 rs2 imm) = store_row w
row_of (OpImm o rd rs1 imm) = imm_row o
row_of (Op o rd rs1 rs2) = op_row o
row_of Fence = 37
row_of Ecall = 38
row_of Ebreak = 39

rows_in_order : (w : ℕ) → map (λ row. row_of (row.instr w)) table ≡ range_with_len 0 40
rows_in_order w = refl

-- the row that gave the instruction of a word
record Found (rows : List Row) (w : ℕ) (i : Instr) : Type 0 where
  place : ℕ
  row : Row
  stands : slice_get rows place ≡ Some row
  fit : fits row.pattern w ≡ true
  gives : row.instr w ≡ i

none_is_some : (i : Instr) → None ≡ Some i → ⊥
none_is_some i e = cc

found : (rows : List Row) (w : ℕ) (i : Instr) → first_fit rows w ≡ Some i → Found rows w i
found [] w i e = absurd (none_is_some i e)
found (row ∷ rows) w i e =
    elim (fits row.pattern w) as (λ b. fits row.pattern w ≡ b → (if b then Some (row.instr w) else first_fit rows w) ≡ Some i → Found (row ∷ rows) w i) [
      | true ↦ λ fit e. record { place = 0; row = row; stands = refl; fit = fit; gives = (let g : row.instr w ≡ i = cc in g) }
      | false ↦ λ _ e. let f : Found rows w i = found rows w i e in record { place = suc f.place; row = f.row; stands = f.stands; fit = f.fit; gives = f.gives }
    ] refl e

range_at : (a n k m : ℕ) → slice_get (range_with_len a n) k ≡ Some m → m ≡ a + k
range_at a zero k m e = cc
range_at a (suc n) zero m e = let f : a ≡ m = cc in omega (arith, f)
range_at a (suc n) (suc k) m e = omega (arith, range_at (a + 1) n k m e)

place_is : (w : ℕ) (i : Instr) (f : Found table w i) → row_of i ≡ f.place
place_is w i f =
    let
    at : slice_get (range_with_len 0 40) f.place ≡ Some (row_of i)
    = ap (λ xs. slice_get xs f.place) (sym (rows_in_order w))
    ∙ slice_get-map (λ row. row_of (row.instr w)) table f.place
    ∙ ap (option_map (λ row. row_of (row.instr w))) f.stands ∙ ap (λ j. Some (row_of j)) f.gives
    in omega (arith, range_at 0 40 f.place (row_of i) at)

record RowFits (row : Row) (w : ℕ) (i : Instr) : Type 0 where
  fit : fits row.pattern w ≡ true
  gives : row.instr w ≡ i

some_is : (x y : Row) → Some x ≡ Some y → x ≡ y
some_is x y e = cc

found_row : (w : ℕ) (i : Instr) (row : Row) (f : Found table w i) → slice_get table (row_of i) ≡ Some row → f.row ≡ row
found_row w i row f own = some_is f.row row (sym f.stands ∙ ap (slice_get table) (sym (place_is w i f)) ∙ own)

-- a word fits the row of its instruction
fits_row : (w : ℕ) (i : Instr) (row : Row) → instr_of_word w ≡ Some i → slice_get table (row_of i) ≡ Some row
    → RowFits row w i
fits_row w i row e own =
    let f : Found table w i = found table w i e in
    record {
      fit = ap (λ (r : Row). fits r.pattern w) (sym (found_row w i row f own)) ∙ f.fit;
      gives = ap (λ (r : Row). r.instr w) (sym (found_row w i row f own)) ∙ f.gives;
    }

-- a word by its six fields
by_fields : (w v : ℕ) → w < 2 ^ 32 → v < 2 ^ 32 → opcode w ≡ opcode v → rd w ≡ rd v → funct3 w ≡ funct3 v
    → rs1 w ≡ rs1 v → rs2 w ≡ rs2 v → funct7 w ≡ funct7 v → w ≡ v
by_fields w v wlt vlt op d f3 s1 s2 f7 = omega (arith, wlt, vlt, op, d, f3, s1, s2, f7)

signed_12 : (x y : ℕ) → x < 4096 → y < 4096 → signed 12 x ≡ signed 12 y → x ≡ y
signed_12 x y xlt ylt e = grind arith

signed_13 : (x y : ℕ) → x < 8192 → y < 8192 → signed 13 x ≡ signed 13 y → x ≡ y
signed_13 x y xlt ylt e = grind arith

fit_3 : (f3 op w : ℕ) → ((funct3 w == f3) && (opcode w == op)) ≡ true → (funct3 w ≡ f3) × (opcode w ≡ op)
fit_3 f3 op w e = let b = and_parts (funct3 w == f3) (opcode w == op) e in (eqb-true _ _ b.0, eqb-true _ _ b.1)

-- an I-type word
i_word : (w v : ℕ) → w < 2 ^ 32 → v < 2 ^ 32 → opcode w ≡ opcode v → funct3 w ≡ funct3 v → rd w ≡ rd v → rs1 w ≡ rs1 v
    → i_immediate w ≡ i_immediate v → w ≡ v
i_word w v wlt vlt op f3 d s1 imm =
    let
    top : bits 31 20 w ≡ bits 31 20 v
    = signed_12 (bits 31 20 w) (bits 31 20 v) (omega arith) (omega arith) imm
    in omega (arith, wlt, vlt, op, f3, d, s1, top)

s_word : (w v : ℕ) → w < 2 ^ 32 → v < 2 ^ 32 → opcode w ≡ opcode v → funct3 w ≡ funct3 v → rs1 w ≡ rs1 v → rs2 w ≡ rs2 v
    → s_immediate w ≡ s_immediate v → w ≡ v
s_word w v wlt vlt op f3 s1 s2 imm =
    let
    both : bits 31 25 w * 2 ^ 5 + bits 11 7 w ≡ bits 31 25 v * 2 ^ 5 + bits 11 7 v
    = signed_12 _ _ (omega arith) (omega arith) imm
    in omega (arith, wlt, vlt, op, f3, s1, s2, both)

digits : (a b c d e f g h : ℕ) → b < 2 → c < 64 → d < 16 → f < 2 → g < 64 → h < 16
    → a * 2 ^ 12 + b * 2 ^ 11 + c * 2 ^ 5 + d * 2 ≡ e * 2 ^ 12 + f * 2 ^ 11 + g * 2 ^ 5 + h * 2
    → (a ≡ e) × (b ≡ f) × (c ≡ g) × (d ≡ h)
digits a b c d e f g h bl cl dl fl gl hl sum =
    (omega (arith, bl, cl, dl, fl, gl, hl, sum), omega (arith, bl, cl, dl, fl, gl, hl, sum), omega (arith, bl, cl, dl, fl, gl, hl, sum), omega (arith, bl, cl, dl, fl, gl, hl, sum))

record SamePieces (w v : ℕ) : Type 0 where
  b31 : bits 31 31 w ≡ bits 31 31 v
  b7 : bits 7 7 w ≡ bits 7 7 v
  b30 : bits 30 25 w ≡ bits 30 25 v
  b11 : bits 11 8 w ≡ bits 11 8 v

pieces : (w v : ℕ) → b_immediate w ≡ b_immediate v → SamePieces w v
pieces w v imm =
    let
    four : bits 31 31 w * 2 ^ 12 + bits 7 7 w * 2 ^ 11 + bits 30 25 w * 2 ^ 5 + bits 11 8 w * 2 ≡ bits 31 31 v * 2 ^ 12 + bits 7 7 v * 2 ^ 11 + bits 30 25 v * 2 ^ 5 + bits 11 8 v * 2
    = signed_13 _ _ (omega arith) (omega arith) imm
    in
    let same = digits (bits 31 31 w) (bits 7 7 w) (bits 30 25 w) (bits 11 8 w) (bits 31 31 v) (bits 7 7 v) (bits 30 25 v) (bits 11 8 v) (omega arith) (omega arith) (omega arith) (omega arith) (omega arith) (omega arith) four in
    record { b31 = same.0; b7 = same.1; b30 = same.2; b11 = same.3 }

b_low : (w v : ℕ) → bits 7 7 w ≡ bits 7 7 v → bits 11 8 w ≡ bits 11 8 v → rd w ≡ rd v
b_low w v seven eleven = omega (arith, seven, eleven)

b_high : (w v : ℕ) → bits 31 31 w ≡ bits 31 31 v → bits 30 25 w ≡ bits 30 25 v → funct7 w ≡ funct7 v
b_high w v top thirty = omega (arith, top, thirty)

b_word : (w v : ℕ) → w < 2 ^ 32 → v < 2 ^ 32 → opcode w ≡ opcode v → funct3 w ≡ funct3 v → rs1 w ≡ rs1 v → rs2 w ≡ rs2 v
    → b_immediate w ≡ b_immediate v → w ≡ v
b_word w v wlt vlt op f3 s1 s2 imm =
    let p : SamePieces w v = pieces w v imm in
    by_fields w v wlt vlt op (b_low w v p.b7 p.b11) f3 s1 s2 (b_high w v p.b31 p.b30)

u_word : (w v : ℕ) → w < 2 ^ 32 → v < 2 ^ 32 → opcode w ≡ opcode v → rd w ≡ rd v → u_immediate w ≡ u_immediate v → w ≡ v
u_word w v wlt vlt op d imm = omega (arith, wlt, vlt, op, d, imm)

fit_7 : (f7 f3 op w : ℕ) → ((funct7 w == f7) && (funct3 w == f3) && (opcode w == op)) ≡ true
    → (funct7 w ≡ f7) × (funct3 w ≡ f3) × (opcode w ≡ op)
fit_7 f7 f3 op w e =
    let b = and_parts ((funct7 w == f7) && (funct3 w == f3)) (opcode w == op) e in
    let c = and_parts (funct7 w == f7) (funct3 w == f3) b.0 in
    (eqb-true _ _ c.0, eqb-true _ _ c.1, eqb-true _ _ b.1)

lui_word : (w v d imm : ℕ) → w < 2 ^ 32 → v < 2 ^ 32 → instr_of_word w ≡ Some (Lui d imm)
    → instr_of_word v ≡ Some (Lui d imm) → w ≡ v
lui_word w v d imm wlt vlt e f =
    let ew : RowFits (u_type 0b0110111 Lui) w (Lui d imm) = fits_row w _ _ e refl in
    let ev : RowFits (u_type 0b0110111 Lui) v (Lui d imm) = fits_row v _ _ f refl in
    let same : Lui (rd w) (u_immediate w) ≡ Lui (rd v) (u_immediate v) = ew.gives ∙ sym ev.gives in
    let d_is : rd w ≡ rd v = cc in
    let i_is : u_immediate w ≡ u_immediate v = cc in
    u_word w v wlt vlt (eqb-true _ _ ew.fit ∙ sym (eqb-true _ _ ev.fit)) d_is i_is

addi_word : (w v d s : ℕ) (imm : ℤ) → w < 2 ^ 32 → v < 2 ^ 32 → instr_of_word w ≡ Some (OpImm imm_op.Add d s imm)
    → instr_of_word v ≡ Some (OpImm imm_op.Add d s imm) → w ≡ v
addi_word w v d s imm wlt vlt e f =
    let ew : RowFits (i_type 0b000 0b0010011 (OpImm imm_op.Add)) w (OpImm imm_op.Add d s imm) = fits_row w _ _ e refl in
    let ev : RowFits (i_type 0b000 0b0010011 (OpImm imm_op.Add)) v (OpImm imm_op.Add d s imm) = fits_row v _ _ f refl in
    let fw = fit_3 0b000 0b0010011 w ew.fit in
    let fv = fit_3 0b000 0b0010011 v ev.fit in
    let same : OpImm imm_op.Add (rd w) (rs1 w) (i_immediate w) ≡ OpImm imm_op.Add (rd v) (rs1 v) (i_immediate v) = ew.gives ∙ sym ev.gives in
    let d_is : rd w ≡ rd v = cc in
    let s_is : rs1 w ≡ rs1 v = cc in
    let i_is : i_immediate w ≡ i_immediate v = cc in
    i_word w v wlt vlt (fw.1 ∙ sym fv.1) (fw.0 ∙ sym fv.0) d_is s_is i_is

lw_word : (w v d s : ℕ) (imm : ℤ) → w < 2 ^ 32 → v < 2 ^ 32 → instr_of_word w ≡ Some (Load load.W d s imm)
    → instr_of_word v ≡ Some (Load load.W d s imm) → w ≡ v
lw_word w v d s imm wlt vlt e f =
    let ew : RowFits (i_type 0b010 0b0000011 (Load load.W)) w (Load load.W d s imm) = fits_row w _ _ e refl in
    let ev : RowFits (i_type 0b010 0b0000011 (Load load.W)) v (Load load.W d s imm) = fits_row v _ _ f refl in
    let fw = fit_3 0b010 0b0000011 w ew.fit in
    let fv = fit_3 0b010 0b0000011 v ev.fit in
    let same : Load load.W (rd w) (rs1 w) (i_immediate w) ≡ Load load.W (rd v) (rs1 v) (i_immediate v) = ew.gives ∙ sym ev.gives in
    let d_is : rd w ≡ rd v = cc in
    let s_is : rs1 w ≡ rs1 v = cc in
    let i_is : i_immediate w ≡ i_immediate v = cc in
    i_word w v wlt vlt (fw.1 ∙ sym fv.1) (fw.0 ∙ sym fv.0) d_is s_is i_is

sw_word : (w v s t : ℕ) (imm : ℤ) → w < 2 ^ 32 → v < 2 ^ 32 → instr_of_word w ≡ Some (Store store.W s t imm)
    → instr_of_word v ≡ Some (Store store.W s t imm) → w ≡ v
sw_word w v s t imm wlt vlt e f =
    let ew : RowFits (s_type 0b010 0b0100011 (Store store.W)) w (Store store.W s t imm) = fits_row w _ _ e refl in
    let ev : RowFits (s_type 0b010 0b0100011 (Store store.W)) v (Store store.W s t imm) = fits_row v _ _ f refl in
    let fw = fit_3 0b010 0b0100011 w ew.fit in
    let fv = fit_3 0b010 0b0100011 v ev.fit in
    let same : Store store.W (rs1 w) (rs2 w) (s_immediate w) ≡ Store store.W (rs1 v) (rs2 v) (s_immediate v) = ew.gives ∙ sym ev.gives in
    let s_is : rs1 w ≡ rs1 v = cc in
    let t_is : rs2 w ≡ rs2 v = cc in
    let i_is : s_immediate w ≡ s_immediate v = cc in
    s_word w v wlt vlt (fw.1 ∙ sym fv.1) (fw.0 ∙ sym fv.0) s_is t_is i_is

bne_word : (w v s t : ℕ) (imm : ℤ) → w < 2 ^ 32 → v < 2 ^ 32 → instr_of_word w ≡ Some (Branch cond.Ne s t imm)
    → instr_of_word v ≡ Some (Branch cond.Ne s t imm) → w ≡ v
bne_word w v s t imm wlt vlt e f =
    let ew : RowFits (b_type 0b001 0b1100011 (Branch cond.Ne)) w (Branch cond.Ne s t imm) = fits_row w _ _ e refl in
    let ev : RowFits (b_type 0b001 0b1100011 (Branch cond.Ne)) v (Branch cond.Ne s t imm) = fits_row v _ _ f refl in
    let fw = fit_3 0b001 0b1100011 w ew.fit in
    let fv = fit_3 0b001 0b1100011 v ev.fit in
    let same : Branch cond.Ne (rs1 w) (rs2 w) (b_immediate w) ≡ Branch cond.Ne (rs1 v) (rs2 v) (b_immediate v) = ew.gives ∙ sym ev.gives in
    let s_is : rs1 w ≡ rs1 v = cc in
    let t_is : rs2 w ≡ rs2 v = cc in
    let i_is : b_immediate w ≡ b_immediate v = cc in
    b_word w v wlt vlt (fw.1 ∙ sym fv.1) (fw.0 ∙ sym fv.0) s_is t_is i_is

blt_word : (w v s t : ℕ) (imm : ℤ) → w < 2 ^ 32 → v < 2 ^ 32 → instr_of_word w ≡ Some (Branch cond.Lt s t imm)
    → instr_of_word v ≡ Some (Branch cond.Lt s t imm) → w ≡ v
blt_word w v s t imm wlt vlt e f =
    let ew : RowFits (b_type 0b100 0b1100011 (Branch cond.Lt)) w (Branch cond.Lt s t imm) = fits_row w _ _ e refl in
    let ev : RowFits (b_type 0b100 0b1100011 (Branch cond.Lt)) v (Branch cond.Lt s t imm) = fits_row v _ _ f refl in
    let fw = fit_3 0b100 0b1100011 w ew.fit in
    let fv = fit_3 0b100 0b1100011 v ev.fit in
    let same : Branch cond.Lt (rs1 w) (rs2 w) (b_immediate w) ≡ Branch cond.Lt (rs1 v) (rs2 v) (b_immediate v) = ew.gives ∙ sym ev.gives in
    let s_is : rs1 w ≡ rs1 v = cc in
    let t_is : rs2 w ≡ rs2 v = cc in
    let i_is : b_immediate w ≡ b_immediate v = cc in
    b_word w v wlt vlt (fw.1 ∙ sym fv.1) (fw.0 ∙ sym fv.0) s_is t_is i_is

slli_word : (w v d s : ℕ) (imm : ℤ) → w < 2 ^ 32 → v < 2 ^ 32 → instr_of_word w ≡ Some (OpImm imm_op.Sll d s imm)
    → instr_of_word v ≡ Some (OpImm imm_op.Sll d s imm) → w ≡ v
slli_word w v d s imm wlt vlt e f =
    let ew : RowFits (shift 0b0000000 0b001 0b0010011 (OpImm imm_op.Sll)) w (OpImm imm_op.Sll d s imm) = fits_row w _ _ e refl in
    let ev : RowFits (shift 0b0000000 0b001 0b0010011 (OpImm imm_op.Sll)) v (OpImm imm_op.Sll d s imm) = fits_row v _ _ f refl in
    let fw = fit_7 0b0000000 0b001 0b0010011 w ew.fit in
    let fv = fit_7 0b0000000 0b001 0b0010011 v ev.fit in
    let same : OpImm imm_op.Sll (rd w) (rs1 w) (pos (shamt w)) ≡ OpImm imm_op.Sll (rd v) (rs1 v) (pos (shamt v)) = ew.gives ∙ sym ev.gives in
    let d_is : rd w ≡ rd v = cc in
    let s_is : rs1 w ≡ rs1 v = cc in
    let i_is : rs2 w ≡ rs2 v = cc in
    by_fields w v wlt vlt (fw.2 ∙ sym fv.2) d_is (fw.1 ∙ sym fv.1) s_is i_is (fw.0 ∙ sym fv.0)

add_word : (w v d s t : ℕ) → w < 2 ^ 32 → v < 2 ^ 32 → instr_of_word w ≡ Some (Op reg_op.Add d s t)
    → instr_of_word v ≡ Some (Op reg_op.Add d s t) → w ≡ v
add_word w v d s t wlt vlt e f =
    let ew : RowFits (r_type 0b0000000 0b000 0b0110011 (Op reg_op.Add)) w (Op reg_op.Add d s t) = fits_row w _ _ e refl in
    let ev : RowFits (r_type 0b0000000 0b000 0b0110011 (Op reg_op.Add)) v (Op reg_op.Add d s t) = fits_row v _ _ f refl in
    let fw = fit_7 0b0000000 0b000 0b0110011 w ew.fit in
    let fv = fit_7 0b0000000 0b000 0b0110011 v ev.fit in
    let same : Op reg_op.Add (rd w) (rs1 w) (rs2 w) ≡ Op reg_op.Add (rd v) (rs1 v) (rs2 v) = ew.gives ∙ sym ev.gives in
    let d_is : rd w ≡ rd v = cc in
    let s_is : rs1 w ≡ rs1 v = cc in
    let t_is : rs2 w ≡ rs2 v = cc in
    by_fields w v wlt vlt (fw.2 ∙ sym fv.2) d_is (fw.1 ∙ sym fv.1) s_is t_is (fw.0 ∙ sym fv.0)

ecall_word : (w v : ℕ) → instr_of_word w ≡ Some Ecall → instr_of_word v ≡ Some Ecall → w ≡ v
ecall_word w v e f =
    let ew : RowFits (one_word 0x00000073 Ecall) w Ecall = fits_row w _ _ e refl in
    let ev : RowFits (one_word 0x00000073 Ecall) v Ecall = fits_row v _ _ f refl in
    eqb-true _ _ ew.fit ∙ sym (eqb-true _ _ ev.fit)

-- the instructions that the programs are made of
abbrev IsUsed : Instr → Type 0
IsUsed (Lui rd imm) = Unit {0}
IsUsed (Branch cond.Ne rs1 rs2 imm) = Unit {0}
IsUsed (Branch cond.Lt rs1 rs2 imm) = Unit {0}
IsUsed (Load load.W rd rs1 imm) = Unit {0}
IsUsed (Store store.W rs1 rs2 imm) = Unit {0}
IsUsed (OpImm imm_op.Add rd rs1 imm) = Unit {0}
IsUsed (OpImm imm_op.Sll rd rs1 imm) = Unit {0}
IsUsed (Op reg_op.Add rd rs1 rs2) = Unit {0}
IsUsed Ecall = Unit {0}
IsUsed _ = ⊥

one_encoding : (w v : ℕ) (i : Instr) → w < 2 ^ 32 → v < 2 ^ 32 → IsUsed i → instr_of_word w ≡ Some i
    → instr_of_word v ≡ Some i → w ≡ v
one_encoding w v (Lui d imm) wlt vlt used e f = lui_word w v d imm wlt vlt e f
one_encoding w v (Branch cond.Ne s t imm) wlt vlt used e f = bne_word w v s t imm wlt vlt e f
one_encoding w v (Branch cond.Lt s t imm) wlt vlt used e f = blt_word w v s t imm wlt vlt e f
one_encoding w v (Load load.W d s imm) wlt vlt used e f = lw_word w v d s imm wlt vlt e f
one_encoding w v (Store store.W s t imm) wlt vlt used e f = sw_word w v s t imm wlt vlt e f
one_encoding w v (OpImm imm_op.Add d s imm) wlt vlt used e f = addi_word w v d s imm wlt vlt e f
one_encoding w v (OpImm imm_op.Sll d s imm) wlt vlt used e f = slli_word w v d s imm wlt vlt e f
one_encoding w v (Op reg_op.Add d s t) wlt vlt used e f = add_word w v d s t wlt vlt e f
one_encoding w v Ecall wlt vlt used e f = ecall_word w v e f
one_encoding w v i wlt vlt used e f = absurd used

first_same : (a b : Option Instr) (xs ys : List (Option Instr)) → (a ∷ xs) ≡ (b ∷ ys) → a ≡ b
first_same a b xs ys e = cc

rest_same : (a b : Option Instr) (xs ys : List (Option Instr)) → (a ∷ xs) ≡ (b ∷ ys) → xs ≡ ys
rest_same a b xs ys e = cc

-- two lists of words that stand for one program are one list
same_words : (ws vs : List ℕ) (program : List Instr) → AllByRecursion (λ w. w < 2 ^ 32) ws
    → AllByRecursion (λ w. w < 2 ^ 32) vs → AllByRecursion IsUsed program → map instr_of_word ws ≡ map Some program
    → map instr_of_word vs ≡ map Some program → ws ≡ vs
same_words [] [] program ws_small vs_small used e f = refl
same_words [] (v ∷ vs) [] ws_small vs_small used e f = cc
same_words [] (v ∷ vs) (i ∷ program) ws_small vs_small used e f = cc
same_words (w ∷ ws) vs [] ws_small vs_small used e f = cc
same_words (w ∷ ws) [] (i ∷ program) ws_small vs_small used e f = cc
same_words (w ∷ ws) (v ∷ vs) (i ∷ program) ws_small vs_small used e f =
    let ew : instr_of_word w ≡ Some i = first_same _ _ _ _ e in
    let ev : instr_of_word v ≡ Some i = first_same _ _ _ _ f in
    ap (λ x. x ∷ ws) (one_encoding w v i ws_small.0 vs_small.0 used.0 ew ev)
    ∙ ap (λ xs. v ∷ xs) (same_words ws vs program ws_small.1 vs_small.1 used.1 (rest_same _ _ _ _ e) (rest_same _ _ _ _ f))

-- the words written out decode to the walk
pub walk_decodes : map instr_of_word walk_words ≡ map Some breadth_first_walk
unfolding breadth_first_walk walk_words
walk_decodes = refl

-- the words written out decode to the nested additions
pub nest_decodes : map instr_of_word nest_words ≡ map Some nested_additions
unfolding nested_additions nest_words
nest_decodes = refl

-- the words of the walk are those written out
pub walk_words_are : (ws : List ℕ) → AllByRecursion (λ w. w < 2 ^ 32) ws
    → map instr_of_word ws ≡ map Some breadth_first_walk → ws ≡ walk_words
unfolding breadth_first_walk walk_words
walk_words_are ws small e =
    same_words ws walk_words breadth_first_walk small (search rules) (search rules) e walk_decodes

-- the words of the nested additions are those written out
pub nest_words_are : (ws : List ℕ) → AllByRecursion (λ w. w < 2 ^ 32) ws
    → map instr_of_word ws ≡ map Some nested_additions → ws ≡ nest_words
unfolding nested_additions nest_words
nest_words_are ws small e = same_words ws nest_words nested_additions small (search rules) (search rules) e nest_decodes
