mod Dialling
