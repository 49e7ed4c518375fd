mod Singly
